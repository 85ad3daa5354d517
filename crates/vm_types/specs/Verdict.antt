-- What an access comes to: the page that it finds, or a fault.
-- sigaction(2), si_code; RISC-V Privileged Specification, table of exception codes (mcause).
use Rattle.std.specs.Prelude.{ℕ, ◌≡◌, refl, ◌/◌, ◌%◌, Bool, false, not, ◌==◌, if◌then◌else◌, Option, Some, None}
use Rattle.vm_types.specs.declared.access.Access.{Access}
use Rattle.vm_types.specs.declared.access.Access.TheVariants.{Load, Store, Fetch}
use Rattle.vm_types.specs.declared.permission.Prot.{Prot}
use Rattle.vm_types.specs.declared.refusal.Code.{Code}
use Rattle.vm_types.specs.declared.refusal.Code.TheVariants.{BusAdraln, SegvMaperr, SegvAccerr, BusAdrerr}
use Rattle.vm_types.specs.declared.refusal.Fault.{Fault}
use Rattle.vm_types.specs.declared.region.Backing.{Backing}
use Rattle.vm_types.specs.declared.region.Backing.TheVariants.{Anon, Private, Shared, Common}
use Rattle.vm_types.specs.Files.{Files, is_past_end_of}
use Rattle.vm_types.specs.Permission.{can_read, can_write, can_execute}
use Rattle.vm_types.specs.View.{View}

-- an access is fine, at the page that it finds, or faults
pub data Verdict : Type 0 where
  Fine : View → Verdict
  Faults : Code → Verdict

-- whether a permission lets the access
abbrev pub lets : Access → Prot → Bool
lets Load prot = can_read prot
lets Store prot = can_write prot
lets Fetch prot = can_execute prot

-- whether a page is a file page wholly past the file's end
abbrev pub is_past_end : Files → Backing → Bool
is_past_end files Anon = false
is_past_end files (Common p) = false
is_past_end files (Private p) = is_past_end_of (files p.file) p.page
is_past_end files (Shared p) = is_past_end_of (files p.file) p.page

-- the tests of an aligned access, at what its page is
abbrev pub page_verdict : Files → Option View → Access → Verdict
page_verdict files None access = Faults SegvMaperr
page_verdict files (Some view) access =
    if not (lets access view.attr.prot) then Faults SegvAccerr
    else (if is_past_end files view.attr.backing then Faults BusAdrerr else Fine view)

-- the first test that holds decides (its order is our choice)
abbrev pub verdict : Files → (ℕ → Option View) → ℕ → ℕ → Access → Verdict
verdict files space addr width access =
    if not (addr % width == 0) then Faults BusAdraln else page_verdict files (space (addr / 4096)) access

-- the exception code of a misaligned access
abbrev pub misaligned_cause : Access → ℕ
misaligned_cause Load = 4
misaligned_cause Store = 6
misaligned_cause Fetch = 0

-- the exception code of a page fault
abbrev pub page_fault_cause : Access → ℕ
page_fault_cause Load = 13
page_fault_cause Store = 15
page_fault_cause Fetch = 12

abbrev pub cause_of : Access → Code → ℕ
cause_of access BusAdraln = misaligned_cause access
cause_of access SegvMaperr = page_fault_cause access
cause_of access SegvAccerr = page_fault_cause access
cause_of access BusAdrerr = page_fault_cause access

-- the fault of an access, as it is reported
abbrev pub fault_of : Access → Code → ℕ → Fault
fault_of access code addr = record { cause = cause_of access code; code = code; addr = addr }

-- one page of anonymous memory, page 16, to be read and written
abbrev pub one_page : ℕ → Option View
one_page page =
    if page == 16 then Some (record { attr = record { prot = record { 0 = 3 }; backing = Anon }; own = None }) else None

pub misaligned : verdict (λ file. None) one_page 131076 8 Load ≡ Faults BusAdraln
misaligned = refl

pub not_mapped : verdict (λ file. None) one_page 69632 1 Load ≡ Faults SegvMaperr
not_mapped = refl

pub not_run : verdict (λ file. None) one_page 65536 4 Fetch ≡ Faults SegvAccerr
not_run = refl

pub cause_of_a_store : cause_of Store BusAdraln ≡ 6
cause_of_a_store = refl
