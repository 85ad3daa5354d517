-- How the steps of the first pass add up.
use Rattle.vm_types.specs.declared.mode.Levels as Levels
use Rattle.lifecycle.proofs.{Linked.{copy_stays, lacks_before, links_one, links_then}, Names.{◌≡◌, ℕ, inl, None, Ok, refl, sym, ap, ◌∙◌, subst, IsErrAnd, is_some, FrameNo, Stall, Ghosts, IsReady, Core, Picture, picture_of, IsFit}}
use Rattle.{lifecycle.{proofs.Names.{KeepsSpaces, MakesWhole, takes_none, takes_then, takes_done, takes_stall}, specs.{Steps.{HasCopy, HasTablesForCopies}, TablesForCopies.{IsForking, LinksForCopies}}}, std.proofs.Common.{Result, Err}}

module _ {M : Type 0} {m : Levels.Ghosts M} {D E : Type 0} (h : Ghosts E) where
  -- nothing was done
  pub copies_none : {T : Type 0} (core : Core D E M m) (parent child : ℕ) (x : T) → IsFit (picture_of core) → IsReady h core.swap → LinksForCopies h core core parent child (Ok x)
  copies_none core parent child x fit swap = record { takes = takes_none h core x fit swap; tables = λ n is. inl is; idle = λ has. refl; wanted = tt; lacks = tt }

  -- one page with a copy was given its tables
  pub copies_way : (a b : Core D E M m) (parent child page : ℕ) (r : Result FrameNo Stall) → IsFit (picture_of a) → HasCopy (picture_of a) parent page → MakesWhole h a b child page r
      → LinksForCopies h a b parent child r
  copies_way a b parent child page (Ok n) fit copy done = record {
    takes = done.takes;
    tables = links_one (picture_of a) (picture_of b) parent child page copy done.tables;
    idle = λ has. (done.idle (has page copy)).0;
    wanted = tt;
    lacks = tt;
  }
  copies_way a b parent child page (Err stall) fit copy done = record {
    takes = done.takes;
    tables = links_one (picture_of a) (picture_of b) parent child page copy done.tables;
    idle = λ has. (done.idle (has page copy)).0;
    wanted = (page, copy, λ whole. (done.idle whole).1);
    lacks = (page, copy_stays (picture_of a) (picture_of b) parent page fit.granting done.pages copy, done.wanted);
  }

  idle_then : (a b c : Core D E M m) (parent child : ℕ) → (HasTablesForCopies (picture_of a) parent child → b ≡ a) → (HasTablesForCopies (picture_of b) parent child → c ≡ b) → HasTablesForCopies (picture_of a) parent child → c ≡ a
  idle_then a b c parent child first second has =
      let same = first has in
      second (subst (λ (x : Core D E M m). HasTablesForCopies (picture_of x) parent child) (sym same) has) ∙ same

  -- one step after another
  pub copies_then : {S T : Type 0} (a b c : Core D E M m) (parent child : ℕ) (x : S) (r : Result T Stall) → LinksForCopies h a b parent child (Ok x) → LinksForCopies h b c parent child r
      → LinksForCopies h a c parent child r
  copies_then a b c parent child x (Ok y) first second = record {
    takes = takes_then h a b c x (Ok y) first.takes second.takes;
    tables = links_then (picture_of a) (picture_of b) (picture_of c) None parent child first.moves.fit.granting first.pages second.pages second.gives first.tables second.tables;
    idle = idle_then a b c parent child first.idle second.idle;
    wanted = tt;
    lacks = tt;
  }
  copies_then a b c parent child x (Err s) first second = record {
    takes = takes_then h a b c x (Err s) first.takes second.takes;
    tables = links_then (picture_of a) (picture_of b) (picture_of c) second.tried.0 parent child first.moves.fit.granting first.pages second.pages second.tried.1 first.tables second.tables;
    idle = idle_then a b c parent child first.idle second.idle;
    wanted = lacks_before (picture_of a) (picture_of b) parent child first.moves.fit.granting first.pages first.moves.tables second.wanted;
    lacks = second.lacks;
  }

  -- whatever was returned
  pub copies_done : {S T : Type 0} (a b : Core D E M m) (parent child : ℕ) (x : S) (y : T) → LinksForCopies h a b parent child (Ok x) → LinksForCopies h a b parent child (Ok y)
  copies_done a b parent child x y links = record { takes = takes_done h a b x y links.takes; tables = links.tables; idle = links.idle; wanted = tt; lacks = tt }

  -- a stall that is handed on
  pub copies_stall : {S T : Type 0} (a b : Core D E M m) (parent child : ℕ) (stall : Stall) (r : Result T Stall) → IsErrAnd r (λ e. e ≡ stall) → LinksForCopies h {T = S} a b parent child (Err stall)
      → LinksForCopies h a b parent child r
  copies_stall a b parent child stall (Ok y) is links = absurd is
  copies_stall a b parent child stall (Err e) is links = record {
    takes = takes_stall h a b stall (Err e) is links.takes;
    tables = links.tables;
    idle = links.idle;
    wanted = links.wanted;
    lacks = links.lacks;
  }

-- a fork goes on where the same processes live with the same pages
pub forking_still : {mode : ℕ} (old new : Picture mode) (parent child : ℕ) → IsForking old parent child → IsFit new → KeepsSpaces old new → IsForking new parent child
forking_still old new parent child was fit spaces = record {
  fit = fit;
  parent_lives = ap is_some (spaces.root parent) ∙ was.parent_lives;
  child_lives = ap is_some (spaces.root child) ∙ was.child_lives;
  same = λ page. spaces.at child page ∙ was.same page ∙ sym (spaces.at parent page);
}
