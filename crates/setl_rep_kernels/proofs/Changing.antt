-- One member more or less, as an operator and by number.
use Rattle.std.proofs.Common.{◌≡◌, ℕ, ◌<◌, ◌≤◌, max, Bool, true, false, not, ◌||◌, ◌&&◌, cond, List, [], ◌∷◌, Some, Result, Ok, Err, refl, ap, sym, ◌∙◌, subst, arith}
use Rattle.std.specs.declared.cmp.Ordering.{Ordering}
use Rattle.std.specs.declared.cmp.Ordering.TheVariants.{Less, Equal, Greater}
use Rattle.std.specs.Option.{is_some, option_and_then}
use Rattle.std.specs.Ordering.{nat_cmp, is_eq}
use Rattle.std.specs.FinSet as set
use Rattle.std.proofs.lemmas.Bool.{false≢true}
use Rattle.setl_value.specs.Datum.{Datum, depth, set_of, elements_of, elements_depth, element_list-elements_of}
use Rattle.setl_value.specs.Order.{datum_cmp}
use Rattle.setl_value.specs.OrderLaws.{same_datum}
use Rattle.setl_set.specs.Sets.{has_datum, insert_datum, insert_by, remove_datum}
use Rattle.setl_operators_table.specs.Collections.{with_datum, less_datum}
use Rattle.setl_operators_table.specs.Outcome.{Gives, Fails, DeepFault, value, within_depth}
use Rattle.setl_operators_table.specs.OutcomeLaws.{shallow, too_deep}
use Rattle.setl_operators_table.specs.Operators.{op_of}
use Rattle.setl_operators_table.specs.declared.Operator.TheVariants.{With, Less as Without}
use Rattle.setl_operators_table.specs.declared.OpFault.{OpFault}
use Rattle.setl_operators_table.specs.declared.OpFault.TheVariants.{Deep}
use Rattle.setl_base.specs.declared.Elt.{Elt}
use Rattle.setl_base.specs.Base.{BaseState, IsBase, find, value_of}
use Rattle.setl_rep_bases.specs.declared.BaseId.{BaseId}
use Rattle.setl_rep_bases.specs.Bases.{BasesState, base_at}
use Rattle.setl_rep_forms.specs.Form.{Form, numbers, remote}
use Rattle.setl_rep_forms.specs.Stands.{members_at, stands, AreLiving}
use Rattle.setl_rep_forms.specs.Laws.{MembersAreTestedByNumber}
use Rattle.setl_rep_based.specs.Members.{IsPut}
use Rattle.setl_rep_kernels.specs.declared.changes.Plan.{Plan}
use Rattle.setl_rep_kernels.specs.declared.changes.Plan.TheVariants.{Stays, Puts}
use Rattle.setl_rep_kernels.specs.Kernels.{change_of, is_member, is_single}
use Rattle.setl_rep_kernels.specs.Changes.{IsChange, IsPlan}

-- ---- depth

-- a set with d is at least as deep as d, and no deeper than d and the set
abbrev Deepens : Datum → List Datum → List Datum → Type 0
Deepens d es new = (depth d ≤ elements_depth (elements_of new)) × (elements_depth (elements_of new) ≤ max (depth d) (elements_depth (elements_of es)))

insert_depth : (d : Datum) (es : List Datum) → Deepens d es (insert_datum d es)
insert_depth d [] = (omega arith, omega arith)
insert_depth d (e ∷ es) = by (datum_cmp d e) refl (insert_depth d es)
  where
    by : (o : Ordering) → datum_cmp d e ≡ o → Deepens d es (insert_datum d es) → Deepens d (e ∷ es) (insert_by o d e es (insert_datum d es))
    by Less p r = (omega arith, omega arith)
    by Equal p r = (omega (arith, ap depth (same_datum d e p)), omega arith)
    by Greater p r = (omega (arith, r.0), omega (arith, r.1))

remove_depth : (d : Datum) (es : List Datum) → elements_depth (elements_of (remove_datum d es)) ≤ elements_depth (elements_of es)
remove_depth d [] = omega arith
remove_depth d (e ∷ es) = by (not (is_eq (datum_cmp d e))) (remove_depth d es)
  where
    by : (t : Bool) → elements_depth (elements_of (remove_datum d es)) ≤ elements_depth (elements_of es) → elements_depth (elements_of (cond t (e ∷ remove_datum d es) (remove_datum d es))) ≤ elements_depth (elements_of (e ∷ es))
    by true r = omega (arith, r)
    by false r = omega (arith, r)

-- ---- members that aren't there

not_there : (d : Datum) (es : List Datum) → has_datum d es ≡ false → remove_datum d es ≡ es
not_there d [] h = refl
not_there d (e ∷ es) h = by (is_eq (datum_cmp d e)) (has_datum d es) h (not_there d es)
  where
    by : (s t : Bool) → (s || t) ≡ false → (t ≡ false → remove_datum d es ≡ es) → cond (not s) (e ∷ remove_datum d es) (remove_datum d es) ≡ e ∷ es
    by true t q r = absurd (false≢true (sym q))
    by false t q r = ap (λ l. e ∷ l) (r q)

-- ---- what the operators give

pub with_gives : (d : Datum) (es : List Datum) → depth (set_of es) ≤ 500 → depth d < 500 → with_datum (set_of es) d ≡ value (set_of (insert_datum d es))
with_gives d es s m =
    let grown : depth (set_of (insert_datum d es)) ≤ 500 = omega (arith, (insert_depth d es).1, s, m) in
    ap (λ l. within_depth (set_of (insert_datum d l))) (element_list-elements_of es) ∙ shallow (set_of (insert_datum d es)) grown

pub with_fails : (d : Datum) (es : List Datum) → 500 ≤ depth d → with_datum (set_of es) d ≡ Fails DeepFault
with_fails d es m =
    let grown : 500 < depth (set_of (insert_datum d es)) = omega (arith, (insert_depth d es).0, m) in
    ap (λ l. within_depth (set_of (insert_datum d l))) (element_list-elements_of es) ∙ too_deep (set_of (insert_datum d es)) grown

pub less_gives : (d : Datum) (es : List Datum) → less_datum (set_of es) d ≡ value (set_of (remove_datum d es))
less_gives d es = ap (λ l. value (set_of (remove_datum d l))) (element_list-elements_of es)

pub less_nothing : (d : Datum) (es : List Datum) → has_datum d es ≡ false → less_datum (set_of es) d ≡ value (set_of es)
less_nothing d es h = less_gives d es ∙ ap (λ l. value (set_of l)) (not_there d es h)

-- ---- changes of a set of numbers

living_at : (bs : BasesState) (b : BaseId) (x : Form) (e : Elt) (d : Datum) → IsBase (base_at bs b) → stands bs x ≡ Some d → value_of (base_at bs b) e ≡ Some d → is_member bs b x ≡ true
living_at bs b x e d base s v = ap (λ o. is_some (option_and_then (find (base_at bs b)) o)) s ∙ ap is_some (base.found e d v)

can : (single member on : Bool) → single ≡ true → (on ≡ true → member ≡ true) → true ≡ (single && (not on || member))
can true true true s m = refl
can true false true s m = absurd (false≢true (m refl))
can true m false s h = refl
can false m on s h = absurd (false≢true s)

module _ (bs : BasesState) (b : BaseId) (x : Form) where
  abbrev IsShallow : set.FinSet nat_cmp → Type 0
  IsShallow ns = depth (set_of (members_at (base_at bs b) ns)) ≤ 500

  pub stays : MembersAreTestedByNumber → IsBase (base_at bs b) → (on : Bool) (old : set.FinSet nat_cmp) → AreLiving (base_at bs b) old → IsShallow old
      → (plan : Plan) → plan ≡ Stays → IsPlan bs b x on (Ok plan) → IsChange bs b x on old old (Ok true)
  stays tested base on old living low plan is planned =
      let p : IsPlan bs b x on (Ok Stays) = subst (λ q. IsPlan bs b x on (Ok q)) is planned in
      let off : on ≡ false = p.0 in
      let d : Datum = p.2 in
      record {
        value = λ left. (λ i. op_of (change_of (off i)) (stands bs (numbers remote b old) ∷ p.3 i ∷ []) left) ∙ less_nothing d (members_at (base_at bs b) old) ((tested (base_at bs b) old d base).1 p.4);
        kernel = can (is_single x) (is_member bs b x) on p.1 (λ t. absurd (false≢true (sym off ∙ t)));
        living = living;
        shallow = low;
        none = λ t. absurd (false≢true (sym t));
        refused = tt;
      }

  put_value : (on : Bool) (old new : set.FinSet nat_cmp) (e : Elt) (d : Datum) (left : ℕ) → IsShallow old → (on ≡ true → depth d < 500) → value_of (base_at bs b) e ≡ Some d → stands bs x ≡ Some d → IsPut (base_at bs b) e on old new
      → op_of (change_of on) (stands bs (numbers remote b old) ∷ stands bs x ∷ []) left ≡ Gives (stands bs (numbers remote b new)) 0
  put_value true old new e d left s m v q p =
      (λ i. op_of With (stands bs (numbers remote b old) ∷ q i ∷ []) left)
      ∙ with_gives d (members_at (base_at bs b) old) s (m refl)
      ∙ ap (λ l. value (set_of l)) (sym (p d v))
  put_value false old new e d left s m v q p =
      (λ i. op_of Without (stands bs (numbers remote b old) ∷ q i ∷ []) left)
      ∙ less_gives d (members_at (base_at bs b) old)
      ∙ ap (λ l. value (set_of l)) (sym (p d v))

  put_shallow : (on : Bool) (old new : set.FinSet nat_cmp) (e : Elt) (d : Datum) → IsShallow old → (on ≡ true → depth d < 500) → value_of (base_at bs b) e ≡ Some d → IsPut (base_at bs b) e on old new → IsShallow new
  put_shallow true old new e d s m v p = omega (arith, ap (λ l. depth (set_of l)) (p d v), (insert_depth d (members_at (base_at bs b) old)).1, s, m refl)
  put_shallow false old new e d s m v p = omega (arith, ap (λ l. depth (set_of l)) (p d v), remove_depth d (members_at (base_at bs b) old), s)

  pub puts : IsBase (base_at bs b) → (on : Bool) (old new : set.FinSet nat_cmp) (e : Elt) → IsShallow old
      → (plan : Plan) → plan ≡ Puts e → IsPlan bs b x on (Ok plan) → (at : BaseState) → at ≡ base_at bs b → IsPut at e on old new → AreLiving at new
      → IsChange bs b x on old new (Ok true)
  puts base on old new e low plan is planned at here put_at living_at_it =
      let p : IsPlan bs b x on (Ok (Puts e)) = subst (λ q. IsPlan bs b x on (Ok q)) is planned in
      let put : IsPut (base_at bs b) e on old new = subst (λ c. IsPut c e on old new) here put_at in
      record {
        value = λ left. put_value on old new e p.1 left low p.4 p.3 p.2 put;
        kernel = can (is_single x) (is_member bs b x) on p.0 (λ t. living_at bs b x e p.1 base p.2 p.3);
        living = subst (λ c. AreLiving c new) here living_at_it;
        shallow = put_shallow on old new e p.1 low p.4 p.3 put;
        none = λ t. absurd (false≢true (sym t));
        refused = tt;
      }

  fails : (on : Bool) (old : set.FinSet nat_cmp) → AreLiving (base_at bs b) old → IsShallow old → IsPlan bs b x on (Err Deep) → IsChange bs b x on old old (Err Deep)
  fails on old living low p = record {
    value = λ left. (λ i. op_of (change_of (p.0 i)) (stands bs (numbers remote b old) ∷ p.2 i ∷ []) left) ∙ with_fails p.1 (members_at (base_at bs b) old) p.3;
    kernel = tt;
    living = living;
    shallow = low;
    none = tt;
    refused = refl;
  }

  -- a plan fails as deep, and in no other way
  pub fails_so : (on : Bool) (old : set.FinSet nat_cmp) → AreLiving (base_at bs b) old → IsShallow old → (r : Result Bool OpFault) (f : OpFault) → r ≡ Err f → IsPlan bs b x on (Err f) → IsChange bs b x on old old r
  fails_so on old living low r Deep is p = subst (λ q. IsChange bs b x on old old q) (sym is) (fails on old living low p)
  fails_so on old living low r f is p = absurd p
