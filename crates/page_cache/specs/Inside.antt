-- What the fields of `PageCache` stand for.
use Rattle.std.specs.Prelude.{◌≡◌, ◌≢◌, ℕ, ◌+◌, ◌≤◌, true, length, None}
use Rattle.page_cache.specs.declared.cache.PageCache.TheInside.{Inside}
use Rattle.page_cache.specs.CacheTable.{CacheTable}
use Rattle.page_cache.specs.Chains.{AreChained}
use Rattle.page_cache.specs.Nodes.{page_at, IsOneToOne}
use Rattle.page_cache.specs.Sets.{is_member, members, IsOrdered}

abbrev pub cache_table_of : Inside → CacheTable
cache_table_of c = record { frames = c.frames; pages = c.index.pages.items; touched = members c.touched.ranks.items c.touched.count }

-- the hash table finds each page at its one node, and the touched nodes hold pages
pub record IsWholeCache (c : Inside) : Type 0 where
  pub least_frames : 8 ≤ c.frames
  pub most_frames : c.frames ≤ 65536
  pub least_nodes : c.frames ≤ length c.index.pages.items
  pub most_nodes : length c.index.pages.items ≤ c.frames + 65536
  pub chained : AreChained c.index.pages.items c.index.links.items c.index.mask
  pub one : IsOneToOne c.index.pages.items
  pub ordered : IsOrdered c.touched.order.items c.touched.ranks.items c.touched.count
  pub nodes : length c.touched.ranks.items ≡ length c.index.pages.items
  pub touched_held : (n : ℕ) → is_member c.touched.ranks.items c.touched.count n ≡ true → page_at c.index.pages.items n ≢ None
