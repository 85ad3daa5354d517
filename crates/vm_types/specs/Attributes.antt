-- What the pages after a given one are, where mapped pages follow one another. mmap(2): a mapping of a file
-- begins at an offset of the file, and its pages are the file's from there on.
use Rattle.std.specs.Prelude.{ℕ, ◌+◌, ◌≤◌, ◌^◌, Bool, true, false, ◌==◌, ◌&&◌, Option, Some, None}
use Rattle.vm_types.specs.Limits.{widest_end}
use Rattle.vm_types.specs.declared.file.FilePage.{FilePage}
use Rattle.vm_types.specs.declared.object.ObjectPage.{ObjectPage}
use Rattle.vm_types.specs.declared.object.PageKey.{PageKey}
use Rattle.vm_types.specs.declared.object.PageKey.TheVariants.{File, Object}
use Rattle.vm_types.specs.declared.permission.Prot.{Prot}
use Rattle.vm_types.specs.declared.region.Attr.{Attr}
use Rattle.vm_types.specs.declared.region.Backing.{Backing}
use Rattle.vm_types.specs.declared.region.Backing.TheVariants.{Anon, Private, Shared, Common}

-- whether a store to a page goes to what stands behind it, so that the process needs no copy of its own: MAP_SHARED
abbrev pub is_shared : Backing → Bool
is_shared Anon = false
is_shared (Private page) = false
is_shared (Shared page) = true
is_shared (Common page) = true

-- the file page that stands behind a page, whether stores go to it or not
abbrev pub backed_by : Backing → Option FilePage
backed_by Anon = None
backed_by (Private page) = Some page
backed_by (Shared page) = Some page
backed_by (Common page) = None

-- the page of a file or of an object that stands behind a page, whether stores go to it or not
abbrev pub stands_on : Backing → Option PageKey
stands_on Anon = None
stands_on (Private page) = Some (File page)
stands_on (Shared page) = Some (File page)
stands_on (Common page) = Some (Object page)

-- the file page so many pages further on
abbrev pub file_page_after : FilePage → ℕ → FilePage
file_page_after page count = record { file = page.file; page = page.page + count }

-- the page of an object so many pages further on
abbrev pub object_page_after : ObjectPage → ℕ → ObjectPage
object_page_after page count = record { object = page.object; page = page.page + count }

-- what stands behind the page so many pages further on
abbrev pub backing_after : Backing → ℕ → Backing
backing_after Anon count = Anon
backing_after (Private page) count = Private (file_page_after page count)
backing_after (Shared page) count = Shared (file_page_after page count)
backing_after (Common page) count = Common (object_page_after page count)

-- what the page so many pages further on is: of equal permission, its page of a file or an object as much further on
abbrev pub attr_after : Attr → ℕ → Attr
attr_after attr count = record { prot = attr.prot; backing = backing_after attr.backing count }

-- whether the pages behind a row of this many pages have numbers: those of a file are under 2 ^ 32, and an object has no more than a process can map
abbrev pub backing_fits : Backing → ℕ → Type 0
backing_fits Anon count = Unit {0}
backing_fits (Private page) count = page.page + count ≤ 2 ^ 32
backing_fits (Shared page) count = page.page + count ≤ 2 ^ 32
backing_fits (Common page) count = page.page + count ≤ widest_end

abbrev pub file_page_eq : FilePage → FilePage → Bool
file_page_eq a b = (a.file == b.file) && (a.page == b.page)

abbrev pub object_page_eq : ObjectPage → ObjectPage → Bool
object_page_eq a b = (a.object == b.object) && (a.page == b.page)

abbrev pub page_key_eq : PageKey → PageKey → Bool
page_key_eq (File a) (File b) = file_page_eq a b
page_key_eq (File _) (Object _) = false
page_key_eq (Object _) (File _) = false
page_key_eq (Object a) (Object b) = object_page_eq a b

abbrev pub backing_eq : Backing → Backing → Bool
backing_eq Anon Anon = true
backing_eq Anon (Private _) = false
backing_eq Anon (Shared _) = false
backing_eq Anon (Common _) = false
backing_eq (Private _) Anon = false
backing_eq (Private a) (Private b) = file_page_eq a b
backing_eq (Private _) (Shared _) = false
backing_eq (Private _) (Common _) = false
backing_eq (Shared _) Anon = false
backing_eq (Shared _) (Private _) = false
backing_eq (Shared a) (Shared b) = file_page_eq a b
backing_eq (Shared _) (Common _) = false
backing_eq (Common _) Anon = false
backing_eq (Common _) (Private _) = false
backing_eq (Common _) (Shared _) = false
backing_eq (Common a) (Common b) = object_page_eq a b

-- whether permission and backing are equal
abbrev pub attr_eq : Attr → Attr → Bool
attr_eq a b = (a.prot.0 == b.prot.0) && backing_eq a.backing b.backing

-- with another permission
abbrev pub with_prot : Prot → Attr → Attr
with_prot prot attr = record { prot = prot; backing = attr.backing }
