mod Session
