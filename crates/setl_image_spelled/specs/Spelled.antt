-- Which images have a spelling, as tests.
use Rattle.std.specs.Prelude.{ℕ, ◌+◌, ◌-◌, ◌^◌, ℤ, pos, negsuc, Bool, true, false, not, ◌&&◌, nat_lt, nat_eq, List, [], length, slice_get, Option, Some, None}
use Rattle.std.specs.List.{list_all}
use Rattle.setl_operators_table.specs.declared.Operator.{Operator}
use Rattle.setl_operators_table.specs.declared.Operator.TheVariants as o
use Rattle.setl_operators_table.specs.Operators.{operand_count}
use Rattle.setl_tree.specs.declared.tree.Param.{Param}
use Rattle.setl_modes.specs.declared.mode.NamedMode.{NamedMode}
use Rattle.setl_modes.specs.declared.mode.ModeTable.{ModeTable}
use Rattle.setl_modes.specs.Modes.{Mode, Elements, Sets, Tuples, SingleMaps, MultiMaps, mode_of}
use Rattle.setl_code.specs.declared.code.OwnName.{OwnName}
use Rattle.setl_code.specs.declared.code.OwnName.TheVariants as own
use Rattle.setl_code.specs.declared.code.Slot.{Slot}
use Rattle.setl_code.specs.declared.code.Slot.TheVariants as slot
use Rattle.setl_code.specs.declared.code.Instr.{Instr}
use Rattle.setl_code.specs.declared.code.Instr.TheVariants as i
use Rattle.setl_code.specs.declared.code.Step.{Step}
use Rattle.setl_code.specs.declared.code.Body.{Body}
use Rattle.setl_image_codec.specs.Texts.{all_are, is_name, is_text_byte}
use Rattle.setl_image_format.specs.OwnNames.{own_text}
use Rattle.setl_image_format.specs.ImageCodec.{some_bodies}
use Rattle.setl_image_format.specs.Steps.{slot_number}
use Rattle.setl_image_format.specs.Table.{begin_count}
use Rattle.setl_image.specs.declared.image.Image.{Image}
use Rattle.setl_image_closed.specs.Closed.{can_alter}
use Rattle.setl_image_modes.specs.SoundModes.{is_of_base, modes_of}

-- a number below 2^32
abbrev pub is_number : ℕ → Bool
is_number n = nat_lt n (2 ^ 32)

-- a list with few enough items, of which the test says yes
abbrev pub is_list : {A : Type 0} → (A → Bool) → List A → Bool
is_list test xs = is_number (length xs) && list_all test xs

-- ---- names

abbrev pub name_fits : List ℕ → Bool
name_fits x = is_name x && is_number (length x)

abbrev pub param_fits : Param → Bool
param_fits p = name_fits p.name && is_number p.line

abbrev pub own_name_fits : OwnName → Bool
own_name_fits (own.Body x) = name_fits x
own_name_fits (own.Former k x) = is_name x && nat_lt 0 k && is_number k && is_number (length (own_text (own.Former k x)))

-- ---- modes

-- where so many of `set`, `tuple`, `smap` and `mmap` may stand inside each other
abbrev pub mode_fits : (left : ℕ) → List Mode → Mode → Bool
mode_fits left bases (Elements k m) = is_of_base (slice_get bases k) m && is_number k
mode_fits left bases (Sets f m) = nat_lt 0 left && mode_fits (left - 1) bases m
mode_fits left bases (Tuples m) = nat_lt 0 left && mode_fits (left - 1) bases m
mode_fits left bases (SingleMaps f d r) = nat_lt 0 left && (mode_fits (left - 1) bases d && mode_fits (left - 1) bases r)
mode_fits left bases (MultiMaps f d s) = nat_lt 0 left && (mode_fits (left - 1) bases d && mode_fits (left - 1) bases s)
mode_fits left bases m = true

abbrev pub named_fits : List Mode → NamedMode → Bool
named_fits bases d = name_fits d.name && mode_fits 200 bases (mode_of d.mode)

abbrev pub section_fits : ModeTable → Bool
section_fits t = is_list (named_fits []) t.bases && is_list (named_fits (modes_of t.bases)) t.vars

-- ---- steps

abbrev pub slot_fits : (globals own : ℕ) → Slot → Bool
slot_fits globals own (slot.Global k) = nat_lt k globals && is_number (slot_number (slot.Global k))
slot_fits globals own (slot.Own k) = nat_lt k own && is_number (slot_number (slot.Own k))

abbrev pub is_put : Operator → Bool
is_put o.Put = true
is_put o.PutImages = true
is_put what = false

abbrev pub is_count : Option ℕ → ℕ → Bool
is_count None n = is_number n
is_count (Some m) n = nat_eq n m

-- no byte stands for a put, and no count behind an operator that has always so many operands
abbrev pub operate_fits : Operator → ℕ → Bool
operate_fits what n = not (is_put what) && is_count (operand_count what) n

-- an integer from 0 to below 2^127
abbrev pub is_whole : ℤ → Bool
is_whole (pos n) = nat_lt n (2 ^ 127)
is_whole (negsuc n) = false

abbrev pub text_fits : List ℕ → Bool
text_fits t = all_are is_text_byte t && is_number (length t)

abbrev pub instr_fits : (globals own : ℕ) → Instr → Bool
instr_fits globals own (i.Integer z) = is_whole z
instr_fits globals own (i.Text t) = text_fits t
instr_fits globals own (i.Load x) = slot_fits globals own x
instr_fits globals own (i.Take x) = slot_fits globals own x
instr_fits globals own (i.Store x) = slot_fits globals own x
instr_fits globals own (i.Operate what n) = operate_fits what n
instr_fits globals own (i.Alter a x ks) = can_alter a && (slot_fits globals own x && is_number (length ks))
instr_fits globals own (i.Decide k to) = is_number to
instr_fits globals own (i.Unless to) = is_number to
instr_fits globals own (i.Jump to) = is_number to
instr_fits globals own (i.Parts n) = is_number n
instr_fits globals own (i.Begin k n) = nat_eq n (begin_count k)
instr_fits globals own (i.Next to) = is_number to
instr_fits globals own (i.Add n) = is_number n
instr_fits globals own (i.Leave n) = is_number n
instr_fits globals own (i.Call n) = is_number n
instr_fits globals own (i.Print n) = is_number n
instr_fits globals own what = true

abbrev pub step_fits : (globals own : ℕ) → Step → Bool
step_fits globals own s = is_number s.line && instr_fits globals own s.what

-- ---- the whole

abbrev pub body_fits : (globals : ℕ) → Body → Bool
body_fits globals b =
    name_fits b.name && (is_list param_fits b.parameters && is_list own_name_fits b.names) && is_list (step_fits globals (length b.parameters + length b.names)) b.steps

abbrev pub image_fits : Image → Bool
image_fits i = is_list name_fits i.code.vars && (section_fits i.modes && (some_bodies i.code.bodies && is_list (body_fits (length i.code.vars)) i.code.bodies))
