use Rattle.famsync.proofs.exports.famsync_resize.Goals as goal

pub returns-in-Err-clause-refused : goal.returns-in-Err-clause-refused
returns-in-Err-clause-refused c = λ turn not.
    let told = c.number_of_resizing.ensures in
    let why = c.in-Err.ensures.refused in
    record {
      room = λ is. c.in-Err.ensures.no_room (told.room is);
      memory = λ is. why.memory (told.memory is);
      none = λ is. why.none (told.none is);
      pages = λ is. why.pages (told.pages is);
      read_only = λ is. why.read_only (told.read_only is);
      homes = λ is. why.homes (told.homes is);
      layout = told.layout;
      journal = told.journal;
      answers = told.answers;
    }
