-- A file page that lay in a slot is settled once it is at home and touched no more, and its slot is free.
use Rattle.msync.{proofs.Names.{ℕ, inl, ap, FilePage, File, frame_count, role_of, Picture, IsFit, Homes, same, views, held_else, held_none}, specs.{Settling.{SettlesOne}, Spots.{slotted_at}}}

pub settles_homed : {mode : ℕ} (old new : Picture mode) (page : FilePage) (k : ℕ) → IsFit old → Homes old new (File page) k → SettlesOne old new (slotted_at page (record { 0 = k }))
settles_homed old new page k fit homes = record {
  frames = ap frame_count homes.frames;
  roles = λ m. ap (λ t. role_of t m) homes.frames;
  slots = homes.slots.others.total;
  root = homes.root;
  views = views old new (File page) k fit homes;
  entries = λ pid q h. inl (same old new (File page) k fit homes pid q);
  files = homes.files;
  placed = homes.placed;
  elsewhere = homes.others;
  cleaned = homes.now;
  untouched = homes.rest;
  settled = held_none old new (File page) k fit homes;
  kept = held_else old new (File page) k fit homes;
}
