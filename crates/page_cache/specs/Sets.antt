-- A set of nodes: all nodes in some order, those of the set first, and the rank of each in that order.
use Rattle.std.specs.Prelude.{◌≡◌, ◌≢◌, ℕ, ◌<◌, ◌≤◌, Bool, nat_lt, List, length, map, slice_index, slice_index_or}
use Rattle.page_cache.specs.declared.node_set.NodeSet.{NodeSet}

-- whether the node is one of the first `count`
abbrev pub is_member : List ℕ → ℕ → ℕ → Bool
is_member ranks count node = nat_lt (slice_index_or ranks node count) count

-- that of each node
abbrev pub members : List ℕ → ℕ → List Bool
members ranks count = map (λ rank. nat_lt rank count) ranks

-- order and ranks undo each other
pub record IsOrdered (order ranks : List ℕ) (count : ℕ) : Type 0 where
  pub few : length ranks ≤ 131072
  pub equal : length order ≡ length ranks
  pub most : count ≤ length ranks
  pub rank_below : (n : ℕ) → n < length ranks → slice_index ranks n < length ranks
  pub node_there : (n : ℕ) → n < length ranks → slice_index order (slice_index ranks n) ≡ n
  pub node_below : (i : ℕ) → i < length ranks → slice_index order i < length ranks
  pub rank_there : (i : ℕ) → i < length ranks → slice_index ranks (slice_index order i) ≡ i

-- the nodes at two ranks have changed places
pub record HaveSwapped (order old new : List ℕ) (i j : ℕ) : Type 0 where
  pub nodes : length new ≡ length old
  pub first : slice_index new (slice_index order i) ≡ j
  pub second : slice_index new (slice_index order j) ≡ i
  pub others : (n : ℕ) → n ≢ slice_index order i → n ≢ slice_index order j → slice_index new n ≡ slice_index old n

-- membership is the same but for one node
pub record SameMembersBut (node : ℕ) (old : List ℕ) (old_count : ℕ) (new : List ℕ) (new_count : ℕ) : Type 0 where
  pub nodes : length new ≡ length old
  pub others : (n : ℕ) → n ≢ node → is_member new new_count n ≡ is_member old old_count n

-- A node was put into the set or taken out of it: order and ranks undo each other still, the node is a member or is none, and the
-- others are what they were.
pub record ChangesMember (node : ℕ) (is : Bool) (old new : NodeSet) : Type 0 where
  pub ordered : IsOrdered new.order.items new.ranks.items new.count
  pub member : is_member new.ranks.items new.count node ≡ is
  pub others : SameMembersBut node old.ranks.items old.count new.ranks.items new.count

-- the set of none of so many nodes
pub record IsEmptySet (order ranks : List ℕ) (count nodes : ℕ) : Type 0 where
  pub ordered : IsOrdered order ranks count
  pub nodes_are : length ranks ≡ nodes
  pub none : count ≡ 0
