-- The members that are told, and those of the bases.
use Rattle.std.proofs.Common.{◌≡◌, ◌∙◌, ℕ, ◌<◌, List, [], length, get_or, Option, sym, ap}
use Rattle.std.specs.Option.{option_map_or}
use Rattle.std.proofs.lemmas.Option.{slice_get-get_or}
use Rattle.setl_value.specs.Datum.{Datum}
use Rattle.setl_code_layout.specs.Layout.{members_of, NamesWithin}
use Rattle.setl_model.specs.Entered.{Base}
use Rattle.setl_modes.specs.Modes.{Mode}
use Rattle.setl_modes_dump.specs.Dump.{variable_line}
use Rattle.setl_rep_bases.specs.BaseId.{main}
use Rattle.setl_rep_bases.specs.Bases.{BasesState, base_at}
use Rattle.setl_rep_layout.specs.Members.{members_by, values_of}
use Rattle.setl_store.specs.MainProgram.{AreTold}
use Rattle.setl_store_layout.proofs.Agreeing.{lines_agree}

abbrev no_base : Base
no_base = record { members = []; kept = [] }

-- a base that is told
pub told_is : (told : List Base) (bs : BasesState) (n : ℕ) → AreTold told bs → n < length told → values_of (base_at bs (main n)) ≡ members_of told n
told_is told bs n are h =
    let there = slice_get-get_or told n no_base h in
    are.members n (get_or told n no_base) there ∙ sym (ap (λ o. option_map_or (λ (b : Base). b.members) o []) there)

-- the line of a variable by what is told is that by the bases
pub line_told : (told : List Base) (bs : BasesState) (name : List ℕ) (m : Mode) (v : Option Datum) → AreTold told bs → NamesWithin (length told) m → variable_line (members_by bs) name m v ≡ variable_line (members_of told) name m v
line_told told bs name m v are named = lines_agree (members_by bs) (members_of told) name m v (λ b n. told_is told bs b are (named b n))
