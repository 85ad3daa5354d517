-- A plan that was made as a device, and copied to the caller's lists.
use Rattle.sync_plans.proofs.{Growth.{alike_unsynced}, Names.{ℕ, ◌≤◌, ◌≡◌, true, IsTrue, List, inl, ⊎_elim, refl, sym, ap, subst, ◌∙◌, arith, Image, LeavesNow, LeavesOnly, FileInfo, Option, StandsFor, StandsForEither, length}}
use Rattle.sync_plans.proofs.Theorem.{no_layout, starts, started, same_first, same_pages, room_stays, same_end, stop_leaves}
use Rattle.sync_plans.specs.{Device.{label}, PlanDisk.{pages_of, content_of, unsynced_in, plan_moment}, Planned.{IsPlan, PlansKeeping}, Plans.{row, AreCalls, AreSources, image_after, StopLeaves}}
use Rattle.sync_plans.specs.{Requests.{HasLayout, IsStore, KeepsOutside, StaysStore}, Writing.{Begins, CopiesPlan}, declared.{call.Call.{Call}, plan_disk.PlanDisk.{PlanDisk}}}
use Rattle.sync_plans.specs.contracts.plan_disk.PlanDiskSectorDisk.TheImpl.{ghosts as device}

module _ {image : List (List ℕ)} {pages : ℕ → List ℕ} {room : ℕ} {d0 : PlanDisk} (begins : Begins image pages room d0) where
  -- before the first call it says of the device what the caller's image says
  pub as_given : (P : ℕ → Image → Type 0) → P (length d0.image.now) (content_of d0) → P (length image) (row image)
  as_given P was = subst (λ (xs : List (List ℕ)). P (length xs) (row xs)) begins.image (subst (λ (i : Image). P (length d0.image.now) i) (started d0 begins.used begins.kept) was)

  pub to_given : (P : ℕ → Image → Type 0) → P (length image) (row image) → P (length d0.image.now) (content_of d0)
  to_given P was = subst (λ (i : Image). P (length d0.image.now) i) (sym (started d0 begins.used begins.kept)) (subst (λ (xs : List (List ℕ)). P (length xs) (row xs)) (sym begins.image) was)

  -- and at first it stands for what that does
  pub stands_now : (files : ℕ → Option FileInfo) (before : ℕ → ℕ → List ℕ) → StandsFor (length image) files before (row image)
      → LeavesNow device d0 (StandsFor (length d0.image.now) files before)
  stands_now files before stands c may = subst (λ (i : Image). StandsFor (length d0.image.now) files before i)
      (started d0 begins.used begins.kept ∙ sym (starts d0 begins.used begins.kept c may)) (to_given (λ sectors i. StandsFor sectors files before i) stands)

  -- What is asked of the store on it leaves the layout of a store, or writes nothing.
  module _ {d : PlanDisk} (stays : StaysStore device d0 d) where
    room_is : d.room ≡ room
    room_is = room_stays d0 begins.used begins.kept d (λ store. (stays.layout_moment tt store).before) (λ bad. (stays.bad_unwritten tt bad).moments) ∙ begins.room

    pub few : d.used ≤ room
    few = omega (arith, d.within, room_is)

    long : length d.image.now ≡ length image
    long = stays.size ∙ ap length begins.image

    module _ {calls' : List Call} {rows' : List (List ℕ)} (copied : CopiesPlan d calls' rows') where
      -- where the list is full, as many calls are listed as there is room for
      pub full_list : d.full ≡ true → AreCalls (length image) calls' room
      full_list full = subst (λ (used : ℕ). AreCalls (length image) calls' used) (d.filled full ∙ room_is) (subst (λ (sectors : ℕ). AreCalls sectors calls' d.used) long copied.all)

      -- On an image of a store
      module _ (store : IsStore (length d0.image.now) (content_of d0)) where
        no_name : (number : ℕ) (first : Image) → HasLayout (length d0.image.now) (label number first) → ⊥
        no_name number first good = no_layout (length d0.image.now) (label number first) good refl

        first : row image ≡ row d.image.now
        first = ap row (sym begins.image) ∙ sym (same_first d0 begins.used begins.kept d (HasLayout (length d0.image.now)) no_name (stays.layout_moment tt store).before)

        lent : pages ≡ pages_of d
        lent = sym begins.lent ∙ sym (same_pages d0 begins.used begins.kept d (HasLayout (length d0.image.now)) no_name (stays.layout_moment tt store).before)

        -- it is a plan,
        pub plan : ((n : ℕ) → unsynced_in d n → ⊥) → IsPlan (length image) room pages calls' d.used
        plan synced = record {
          few = few;
          all = subst (λ (sectors : ℕ). AreCalls sectors calls' d.used) long copied.all;
          sources = subst (λ (p : ℕ → List ℕ). AreSources p calls' d.used) (sym lent) copied.sources;
          synced = λ n u. synced n (inl (subst IsTrue (alike_unsynced d.calls.now calls' d.used copied.same_calls d.used n (omega arith)) u));
        }

        -- all its calls leave what the device holds,
        pub at_end : (P : ℕ → Image → Image → Type 0) → P (length d0.image.now) (content_of d0) (content_of d) → P (length image) (row image) (image_after calls' rows' pages (row image) d.used)
        at_end P was = subst (λ (i : Image). P (length image) (row image) i) (sym (same_end d calls' rows' image pages first lent copied.same_calls copied.same_rows))
            (as_given (λ sectors i. P sectors i (content_of d)) was)

        -- and a stop within them what one may have left of it,
        pub at_stop : (P : ℕ → Image → Type 0) → LeavesOnly device d0 d (P (length d0.image.now)) → (left : Image) → StopLeaves calls' rows' pages (row image) d.used left → P (length image) left
        at_stop P only left stop = subst (λ (xs : List (List ℕ)). P (length xs) left) begins.image
            (only.each left (stop_leaves d calls' rows' image pages first lent copied.same_calls copied.same_rows (plan_moment d0) (let none = begins.used in omega (arith, none)) left stop))

        -- which is that of the same files, where it is asked for no change.
        pub keeps : ((n : ℕ) → unsynced_in d n → ⊥) → KeepsOutside (length d0.image.now) (content_of d0) (content_of d)
            → ((files : ℕ → Option FileInfo) (before : ℕ → ℕ → List ℕ) → LeavesNow device d0 (StandsFor (length d0.image.now) files before) → LeavesOnly device d0 d (StandsForEither (length d0.image.now) files before before))
            → PlansKeeping image room pages calls' rows' d.used
        keeps synced outside any_moment = record {
          store = as_given IsStore store;
          plan = plan synced;
          any_moment = λ files before stands left stop.
              ⊎_elim (λ s. s) (λ s. s) (at_stop (λ sectors. StandsForEither sectors files before before) (any_moment files before (stands_now files before stands)) left stop);
          outside = at_end KeepsOutside outside;
        }
