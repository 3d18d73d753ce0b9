-- The form that a Rust value stands for.
use Rattle.std.specs.Prelude.{◌≡◌, ℕ, Bool, List, [], ◌∷◌, map, Option, None, Some, refl}
use Rattle.std.specs.Option.{option_map}
use Rattle.std.proofs.Common.{ap, sym, ◌∙◌}
use Rattle.std.specs.Ordering.{nat_cmp}
use Rattle.std.specs.FinSet as set
use Rattle.std.specs.declared.rc.Rc.{Rc}
use Rattle.std.specs.declared.vec.Vec.{Vec}
use Rattle.std.specs.declared.alloc.Global.{Global}
use mathlib.Core.Former.{this}
use Rattle.setl_remote.specs.formers.slots.Slots as slots
use Rattle.setl_value.specs.declared.Value.{Value}
use Rattle.setl_value.specs.code.DatumOf.{datum}
use Rattle.setl_base.specs.declared.Elt.{Elt}
use Rattle.setl_rep_bases.specs.declared.BaseId.{BaseId}
use Rattle.setl_rep_forms.specs.declared.held.Held.{Held, fold-Held, fold-roll-Held}
use Rattle.setl_rep_forms.specs.declared.held.Held.TheOpen.{Held-F}
use Rattle.setl_rep_forms.specs.declared.held.Held.TheVariants as code
use Rattle.setl_rep_forms.specs.Form.{Form, om, plain, element, numbers, table, handles, remote, sparse, slots_from, entries_of}

abbrev form_step : Held-F Form → Form
form_step Held-F.Om = om
form_step (Held-F.Plain v) = plain (datum v)
form_step (Held-F.Elt b e) = element b e
form_step (Held-F.Remote b ns) = numbers remote b ns
form_step (Held-F.Sparse b ns) = numbers sparse b ns.value
form_step (Held-F.RemoteMap b many cs) = table remote b many (slots_from 0 cs.value)
form_step (Held-F.SparseMap b many cs) = table sparse b many (entries_of cs.value)
form_step (Held-F.EltTuple b es) = handles b es.value.items

abbrev pub form : Held → Form
form = fold-Held Form form_step

-- ---- the form of each variant

pub of_om : form code.Om ≡ om
of_om = ap form (sym code.rolls-Om) ∙ fold-roll-Held Form _ Held-F.Om

pub of_plain : (v : Value) → form (code.Plain v) ≡ plain (datum v)
of_plain v = ap form (sym (code.rolls-Plain v)) ∙ fold-roll-Held Form _ (Held-F.Plain v)

pub of_element : (b : BaseId) (e : Elt) → form (code.Elt b e) ≡ element b e
of_element b e = ap form (sym (code.rolls-Elt b e)) ∙ fold-roll-Held Form _ (Held-F.Elt b e)

pub of_remote : (b : BaseId) (ns : set.FinSet nat_cmp) → form (code.Remote b ns) ≡ numbers remote b ns
of_remote b ns = ap form (sym (code.rolls-Remote b ns)) ∙ fold-roll-Held Form _ (Held-F.Remote b ns)

pub of_sparse : (b : BaseId) (ns : Rc (set.FinSet nat_cmp) Global) → form (code.Sparse b ns) ≡ numbers sparse b ns.value
of_sparse b ns = ap form (sym (code.rolls-Sparse b ns)) ∙ fold-roll-Held Form _ (Held-F.Sparse b ns)

pub of_handles : (b : BaseId) (es : Rc (Vec (Option Elt) Global) Global) → form (code.EltTuple b es) ≡ handles b es.value.items
of_handles b es = ap form (sym (code.rolls-EltTuple b es)) ∙ fold-roll-Held Form _ (Held-F.EltTuple b es)

-- what the fold makes of slots
of_slots : (cs : List (Option Held)) → map ((slots.slot (this {0})).map Held Form form) cs ≡ map (option_map form) cs
of_slots [] = refl
of_slots (None ∷ cs) = ap (λ l. None ∷ l) (of_slots cs)
of_slots (Some c ∷ cs) = ap (λ l. Some (form c) ∷ l) (of_slots cs)

pub of_remote_map : (b : BaseId) (many : Bool) (cs : Rc (List (Option Held)) Global) → form (code.RemoteMap b many cs) ≡ table remote b many (slots_from 0 (map (option_map form) cs.value))
of_remote_map b many cs =
    ap form (sym (code.rolls-RemoteMap b many cs))
    ∙ fold-roll-Held Form _ (Held-F.RemoteMap b many cs)
    ∙ ap (λ l. table remote b many (slots_from 0 l)) (of_slots cs.value)

pub of_sparse_map : (b : BaseId) (many : Bool) (cs : Rc (List (ℕ × Held)) Global) → form (code.SparseMap b many cs) ≡ table sparse b many (entries_of (map (λ e. (e.0, form e.1)) cs.value))
of_sparse_map b many cs = ap form (sym (code.rolls-SparseMap b many cs)) ∙ fold-roll-Held Form _ (Held-F.SparseMap b many cs)
