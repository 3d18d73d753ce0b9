-- Updates of variables, by what is left when the operands of the selectors were popped.
use Rattle.std.proofs.Common.{◌≡◌, ◌∙◌, ℕ, Bool, List, [], ◌∷◌, length, get_or, map, Option, Some, None, Result, refl, sym, ap, subst, arith}
use Rattle.std.specs.Prelude.{IfOk}
use Rattle.std.specs.Option.{option_map, unwrap_or}
use Rattle.std.specs.declared.alloc.AllocError.{AllocError}
use Rattle.std.proofs.lemmas.List.{length-map}
use Rattle.std.proofs.lemmas.Result.{IfOk-weaker}
use Rattle.setl_value.specs.Datum.{Datum}
use Rattle.setl_value.specs.code.DatumOf.{part}
use Rattle.setl_value.specs.declared.Value.{Value}
use Rattle.setl_model_runs.specs.Run.{settle}
use Rattle.setl_model_runs.specs.Variable.{Variable}
use Rattle.setl_model.specs.Core.{Selected}
use Rattle.setl_code.specs.declared.code.Bracket.{Bracket}
use Rattle.setl_code.specs.declared.code.Slot.{Slot}
use Rattle.setl_code.specs.Code.{Alteration, Alter}
use Rattle.setl_code.specs.Plain.{plain_code, plain_slot, plain_bracket}
use Rattle.setl_code.specs.CodeCore.{Operand, value_of, Pops, Lacks, pop_before, popped, held}
use Rattle.setl_code.specs.Machine.{machine, on_popped, on_held, alter, selected_by}
use Rattle.setl_code_declared.specs.Fitting.{Fitting}
use Rattle.setl_code_events.specs.Told.{value_held, popped_values}
use Rattle.setl_store.specs.Standing.{Standing, over, top_of, variables}
use Rattle.setl_machine_updates.specs.Selectors.{selected}
use Rattle.setl_machine_updates.specs.declared.selectors.Selector.{Selector}
use Rattle.setl_machine_control.specs.Control.{ControlState, stood_for}
use Rattle.setl_machine_control.specs.Declaring.{Modes, tested, IsDeclared}
use Rattle.setl_machine_control.specs.Answers.{start, Quiet}
use Rattle.setl_machine_control.specs.Working.{DoesBy, PopsTop}
use Rattle.setl_machine_control.specs.declared.declaration.Declaration.{Declaration}
use Rattle.setl_machine_control.specs.declared.end.End.{End}
use Rattle.setl_machine_control.specs.declared.end.End.TheVariants as end
use Rattle.setl_machine_variables.specs.Altered.{stores_new, Alters}
use Rattle.setl_machine_variables.specs.Gaining.{GainsIf}
use Rattle.setl_machine_variables.specs.declared.altering.Updated.{Updated}
use Rattle.setl_machine_variables.proofs.Altered.{held_in_world}

-- ---- the operands

-- The operands of selectors in these brackets were popped: their values, and the selectors that they make.
pub record ArePopped (bs : List Bracket) (old mid : Standing) (at : List Selected) : Type 0 where
  pub values : List (Option Datum)
  pub off : popped (length bs) [] old.core.now.operands ≡ Pops values mid.core.now.operands
  pub rest : mid ≡ record old { core = over mid.core.now.operands old.core }
  pub made : at ≡ selected_by (map plain_bracket bs) values

pub none_popped : (bs : List Bracket) (old : Standing) → length bs ≡ 0 → ArePopped bs old old []
none_popped [] old n = record { values = []; off = refl; rest = refl; made = refl }
none_popped (b ∷ bs) old n = absurd (omega (arith, n))

top_popped : (xs ys : List Operand) (v : Option Datum) → top_of xs ≡ Some (v, ys) → popped 1 [] xs ≡ Pops (v ∷ []) ys
top_popped [] ys v h = absurd (cc)
top_popped (o ∷ xs) ys v h = go (value_of o) h
  where
    go : (u : Option (Option Datum)) → option_map {U = Option Datum × List Operand} (λ v. (v, xs)) u ≡ Some (v, ys) → pop_before u (λ w. Pops (w ∷ []) xs) ≡ Pops (v ∷ []) ys
    go None h = absurd (cc)
    go (Some u) h = let here : Option Datum × List Operand = (u, xs) in let same = ap (λ o. unwrap_or o here) h in λ i. Pops ((same i).0 ∷ []) (same i).1

pub one_popped : (bs : List Bracket) (old mid : Standing) (v : Option Value) (d : Bracket) (s : Selector) → length bs ≡ 1 → PopsTop old (Some v) mid → selected_by (plain_bracket (get_or bs 0 d) ∷ []) (part v ∷ []) ≡ selected s ∷ [] → ArePopped bs old mid (selected s ∷ [])
one_popped [] old mid v d s n pops is = absurd (omega (arith, n))
one_popped (b ∷ []) old mid v d s n pops is = record { values = part v ∷ []; off = top_popped old.core.now.operands mid.core.now.operands (part v) pops.0; rest = pops.1; made = sym is }
one_popped (b ∷ b' ∷ bs) old mid v d s n pops is = absurd (omega (arith, n))

-- there is none on top
pub one_lacks : (bs : List Bracket) (xs : List Operand) → length bs ≡ 1 → top_of xs ≡ None → popped (length bs) [] xs ≡ Lacks
one_lacks bs xs n none = ap (λ k. popped k [] xs) n ∙ lacks xs none
  where
    go : (o : Operand) (ys : List Operand) (u : Option (Option Datum)) → option_map {U = Option Datum × List Operand} (λ v. (v, ys)) u ≡ None → pop_before u (λ w. Pops (w ∷ []) ys) ≡ Lacks
    go o ys None h = refl
    go o ys (Some u) h = absurd (cc)

    lacks : (ys : List Operand) → top_of ys ≡ None → popped 1 [] ys ≡ Lacks
    lacks [] h = refl
    lacks (o ∷ ys) h = go o ys (value_of o) h

-- ---- where an operand is lacking

pub lacking_stuck : (modes : Modes) (old new : Standing) (from : ControlState) (line : ℕ) (what : Alteration) (x : Variable) (bs : List Bracket) (e : End) → popped (length bs) [] old.core.now.operands ≡ Lacks → new ≡ old → e ≡ end.Stuck → DoesBy modes old from line (Alter what x (map plain_bracket bs)) new from e
lacking_stuck modes old new from line what x bs e lacks same is =
    subst (λ (s : Standing). DoesBy modes old from line (Alter what x (map plain_bracket bs)) s from e) (sym same)
    (subst (λ f. DoesBy modes old from line (Alter what x (map plain_bracket bs)) old from f) (sym is) (
      refl,
      λ rest.
          let k = stood_for old.core from rest in
          subst (λ q. Quiet modes (settle (machine (plain_code old.code)) (tested modes) (start k) (on_popped q (λ us ys. on_held (held x k) (λ whole. alter what line x whole (selected_by (map plain_bracket bs) us) ys k)))) k end.Stuck) (sym (ap (λ j. popped j [] old.core.now.operands) (length-map bs plain_bracket) ∙ lacks))
          ((refl, ([], refl)), refl),
    ))

pub stuck_gains : (modes : Modes) (x : Variable) (old new : Standing) (stored : Bool) (e : End) → new ≡ old → e ≡ end.Stuck → GainsIf stored modes x old new e
stuck_gains modes x old new stored e same is = subst (λ f. GainsIf stored modes x old new f) (sym is) (ap (λ (s : Standing). s.bases) same)

-- ---- where all were popped, the variables and what they hold are the same

same_declared : (modes : Modes) (old mid : Standing) (slot : Slot) (d : Option Declaration) → mid ≡ record old { core = over mid.core.now.operands old.core } → IsDeclared modes (plain_slot (variables old.core) slot) d → IsDeclared modes (plain_slot (variables mid.core) slot) d
same_declared modes old mid slot d m is = subst (λ (t : Standing). IsDeclared modes (plain_slot (variables t.core) slot) d) (sym m) is

same_fitting : (modes : Modes) (old mid : Standing) → mid ≡ record old { core = over mid.core.now.operands old.core } → Fitting modes old.core → Fitting modes mid.core
same_fitting modes old mid m f = subst (λ (t : Standing). Fitting modes t.core) (sym m) f

altered : (modes : Modes) (old mid new : Standing) (from to : ControlState) (line : ℕ) (what : Alteration) (slot : Slot) (bs : List Bracket) (at : List Selected) (e : End) → ArePopped bs old mid at → Alters modes mid from line what (plain_slot (variables mid.core) slot) at new to e →
    DoesBy modes old from line (Alter what (plain_slot (variables old.core) slot) (map plain_bracket bs)) new to e
altered modes old mid new from to line what slot bs at e p a =
    let xs = mid.core.now.operands in
    let x = plain_slot (variables old.core) slot in
    let ss = selected_by (map plain_bracket bs) p.values in
    let made : Alters modes mid from line what (plain_slot (variables mid.core) slot) ss new to e = subst (λ ts. Alters modes mid from line what (plain_slot (variables mid.core) slot) ts new to e) p.made a in
    let b : Alters modes (record old { core = over xs old.core }) from line what x ss new to e = subst (λ (t : Standing). Alters modes t from line what (plain_slot (variables t.core) slot) ss new to e) p.rest made in (
      b.0,
      λ rest.
          let k = stood_for old.core from rest in
          subst (λ q. Quiet modes (settle (machine (plain_code old.code)) (tested modes) (start k) (on_popped q (λ us ys. on_held (held x k) (λ whole. alter what line x whole (selected_by (map plain_bracket bs) us) ys k)))) (stood_for new.core to rest) e) (sym (ap (λ j. popped j [] old.core.now.operands) (length-map bs plain_bracket) ∙ p.off))
          (b.1 old.core.now.operands rest),
    )

-- whether a new whole is stored
same_stored : (old mid : Standing) (turns : ℕ) (what : Alteration) (slot : Slot) (bs : List Bracket) (at : List Selected) → ArePopped bs old mid at →
    stores_new what (value_held (held (plain_slot (variables mid.core) slot) mid.core)) at turns ≡ stores_new what (value_held (held (plain_slot (variables old.core) slot) old.core)) (selected_by (map plain_bracket bs) (popped_values (popped (length (map plain_bracket bs)) [] old.core.now.operands))) turns
same_stored old mid turns what slot bs at p =
    let x = plain_slot (variables old.core) slot in
    let xs = mid.core.now.operands in
    ap (λ (t : Standing). stores_new what (value_held (held (plain_slot (variables t.core) slot) t.core)) at turns) p.rest
    ∙ ap (λ u. stores_new what (value_held u) at turns) (held_in_world x old.core.world xs old.core)
    ∙ ap (λ ss. stores_new what (value_held (held x old.core)) ss turns) (p.made ∙ sym (ap (λ q. selected_by (map plain_bracket bs) (popped_values q)) (ap (λ j. popped j [] old.core.now.operands) (length-map bs plain_bracket) ∙ p.off)))

-- ---- the whole instruction

pub did_popped : (modes : Modes) (old mid new : Standing) (from to : ControlState) (line : ℕ) (what : Alteration) (slot : Slot) (d : Option Declaration) (bs : List Bracket) (at : List Selected) (r : Result Updated AllocError) → ArePopped bs old mid at → IsDeclared modes (plain_slot (variables old.core) slot) d → Fitting modes old.core →
    ((ms : Modes) → IsDeclared ms (plain_slot (variables mid.core) slot) d → Fitting ms mid.core → IfOk r (λ updated. Alters ms mid from line what (plain_slot (variables mid.core) slot) at new to updated.end)) →
    IfOk r (λ updated. DoesBy modes old from line (Alter what (plain_slot (variables old.core) slot) (map plain_bracket bs)) new to updated.end)
did_popped modes old mid new from to line what slot d bs at r p declared fitting did =
    IfOk-weaker r
    (λ (u : Updated). Alters modes mid from line what (plain_slot (variables mid.core) slot) at new to u.end)
    (λ (u : Updated). DoesBy modes old from line (Alter what (plain_slot (variables old.core) slot) (map plain_bracket bs)) new to u.end)
    (λ u a. altered modes old mid new from to line what slot bs at u.end p a)
    (did modes (same_declared modes old mid slot d p.rest declared) (same_fitting modes old mid p.rest fitting))

pub stored_popped : (modes : Modes) (old mid : Standing) (turns : ℕ) (what : Alteration) (slot : Slot) (d : Option Declaration) (bs : List Bracket) (at : List Selected) (r : Result Updated AllocError) → ArePopped bs old mid at → IsDeclared modes (plain_slot (variables old.core) slot) d →
    ((ms : Modes) → IsDeclared ms (plain_slot (variables mid.core) slot) d → IfOk r (λ updated. updated.end ≡ end.Paused → updated.stored ≡ stores_new what (value_held (held (plain_slot (variables mid.core) slot) mid.core)) at turns)) →
    IfOk r (λ updated. updated.end ≡ end.Paused → updated.stored ≡ stores_new what (value_held (held (plain_slot (variables old.core) slot) old.core)) (selected_by (map plain_bracket bs) (popped_values (popped (length (map plain_bracket bs)) [] old.core.now.operands))) turns)
stored_popped modes old mid turns what slot d bs at r p declared stored =
    IfOk-weaker r
    (λ (u : Updated). u.end ≡ end.Paused → u.stored ≡ stores_new what (value_held (held (plain_slot (variables mid.core) slot) mid.core)) at turns)
    (λ (u : Updated). u.end ≡ end.Paused → u.stored ≡ stores_new what (value_held (held (plain_slot (variables old.core) slot) old.core)) (selected_by (map plain_bracket bs) (popped_values (popped (length (map plain_bracket bs)) [] old.core.now.operands))) turns)
    (λ u told goes. told goes ∙ same_stored old mid turns what slot bs at p)
    (stored modes (same_declared modes old mid slot d p.rest declared))

pub gained_popped : (modes : Modes) (old mid new : Standing) (slot : Slot) (d : Option Declaration) (bs : List Bracket) (at : List Selected) (r : Result Updated AllocError) → ArePopped bs old mid at → IsDeclared modes (plain_slot (variables old.core) slot) d →
    ((ms : Modes) → IsDeclared ms (plain_slot (variables mid.core) slot) d → IfOk r (λ updated. GainsIf updated.stored ms (plain_slot (variables mid.core) slot) mid new updated.end)) →
    IfOk r (λ updated. GainsIf updated.stored modes (plain_slot (variables old.core) slot) old new updated.end)
gained_popped modes old mid new slot d bs at r p declared gained =
    IfOk-weaker r
    (λ (u : Updated). GainsIf u.stored modes (plain_slot (variables mid.core) slot) mid new u.end)
    (λ (u : Updated). GainsIf u.stored modes (plain_slot (variables old.core) slot) old new u.end)
    (λ u g. subst (λ (t : Standing). GainsIf u.stored modes (plain_slot (variables t.core) slot) t new u.end) p.rest g)
    (gained modes (same_declared modes old mid slot d p.rest declared))
