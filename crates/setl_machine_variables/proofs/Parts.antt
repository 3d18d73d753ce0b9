-- A variable takes the new whole of an update where the new part says so.
use Rattle.std.proofs.Common.{◌≡◌, ◌∙◌, ℕ, ◌+◌, ◌-◌, Bool, true, List, [], ◌∷◌, reverse, Option, Some, None, Result, Ok, Err, refl, sym, ap, subst}
use Rattle.std.specs.Prelude.{OnErr, option_and_then}
use Rattle.setl_value.specs.Datum.{Datum, bool, int, text, atom, tuple, set, Parts, Elements, set_of, tuple_of, elements_of, element_list, parts_of, part_list, elements_of-element_list, parts_of-part_list}
use Rattle.setl_value.specs.Order.{IsRising}
use Rattle.setl_value.specs.WellFormed.{PartIsWellFormed}
use Rattle.setl_value.specs.code.DatumOf.{part}
use Rattle.setl_value.specs.declared.Value.{Value}
use Rattle.setl_operators_table.specs.declared.Operator.{Operator}
use Rattle.setl_operators_table.specs.declared.OpFault.{OpFault}
use Rattle.setl_operators_table.specs.Operators.{op_of}
use Rattle.setl_operators_table.specs.Outcome.{Outcome, Gives, Fails, Overspends, adding, then_with}
use Rattle.setl_modes.specs.Modes.{Mode}
use Rattle.setl_modes.specs.Fits.{datum_fits, fits, is_taken}
use Rattle.setl_modes_parts.specs.Parts.{combines}
use Rattle.setl_modes_parts.specs.Laws.{Fitting as Fits}
use Rattle.setl_model_runs.specs.Variable.{Variable}
use Rattle.setl_model.specs.Core.{Selected, Round, Brace}
use Rattle.setl_model.specs.Places.{Taken, TakesOut, IsEmpty, CannotTake, take_out, take_least, take_first, take_last, part_of, with_part_at, part_at_all, with_part_at_all, combined}
use Rattle.setl_model.specs.Step.{declared_mode}
use Rattle.setl_program.specs.declared.kinds.Taking.{Taking}
use Rattle.setl_program.specs.declared.kinds.Taking.TheVariants.{TakeLeast, TakeFirst, TakeLast}
use Rattle.setl_code.specs.declared.code.Slot.{Slot}
use Rattle.setl_code.specs.CodeCore.{There, CodeCore, held}
use Rattle.setl_code.specs.Plain.{plain_slot}
use Rattle.setl_code_declared.specs.Fitting.{Fitting}
use Rattle.setl_code_declared.specs.Laws.{HeldFits}
use Rattle.setl_store.specs.Standing.{Standing, variables}
use Rattle.setl_machine_updates.specs.Takes.{TakesPart, TakesFrom, Takes}
use Rattle.setl_machine_updates.specs.Updates.{Leaves, Updates}
use Rattle.setl_machine_updates.specs.declared.taking.TakenOut.{TakenOut}
use Rattle.setl_machine_control.specs.Declaring.{mode_by, Modes, tested, IsDeclared}
use Rattle.setl_machine_control.specs.Working.{PopsTop}
use Rattle.setl_machine_control.specs.declared.declaration.Declaration.{Declaration}
use Rattle.setl_machine_variables.specs.Altered.{TakesHeld}
use Rattle.setl_machine_variables.specs.Deciding.{mode_at, part_mode, passes, decides_put, decides_combined, decides_taken, PartLaws}
use Rattle.setl_machine_variables.proofs.Altered.{InHand, taken_held, parts_refused}

-- ---- what is given

abbrev given : Outcome → Option Datum → Option Datum
given (Gives v n) w = v
given o w = w

gives_same : (v w : Option Datum) (n m : ℕ) → Gives v n ≡ Gives w m → v ≡ w
gives_same v w n m h = ap (λ o. given o w) h

added : (c : ℕ) (o : Outcome) (w : Option Datum) (n : ℕ) → adding c o ≡ Gives w n → (m : ℕ) × (o ≡ Gives w m)
added c (Gives v m) w n h = (m, ap (λ x. Gives x m) (gives_same v w (c + m) n h))
added c (Fails f) w n h = absurd (cc)
added c Overspends w n h = absurd (cc)

-- the first of two outcomes, and the second behind it
then_given : (o : Outcome) (left : ℕ) (f : Option Datum → ℕ → Outcome) (w : Option Datum) (n : ℕ) → then_with o left f ≡ Gives w n →
    (p : Option Datum) × (c : ℕ) × (o ≡ Gives p c) × (m : ℕ) × (f p (left - c) ≡ Gives w m)
then_given (Gives p c) left f w n h = let r = added c (f p (left - c)) w n h in (p, c, refl, r.0, r.1)
then_given (Fails g) left f w n h = absurd (cc)
then_given Overspends left f w n h = absurd (cc)

-- ---- modes of parts

some_same : {X : Type 0} (x y : X) → Some x ≡ Some y → x ≡ y
some_same x y h = cc

inner : (f : Mode → Option Mode) (o : Option Mode) (n : Mode) → option_and_then f o ≡ Some n → (k : Mode) × (o ≡ Some k) × (f k ≡ Some n)
inner f None n h = absurd (cc)
inner f (Some k) n h = (k, refl, h)

passed : (test : Mode → Bool) (o : Option Mode) → passes test o ≡ true → (n : Mode) × (o ≡ Some n) × (test n ≡ true)
passed test None h = absurd (cc)
passed test (Some n) h = (n, refl, h)

-- ---- one selector

put_fits : PartLaws → (s : Selected) (m n : Mode) (whole v w : Option Datum) (left charged : ℕ) → mode_at m s ≡ Some n → Fits m whole → fits n v ≡ true → with_part_at s whole v left ≡ Gives w charged → fits m w ≡ true
put_fits laws (Round x) m n whole v w left charged is f t h = laws.puts m n x whole v w left charged is f t h
put_fits laws (Brace x) m n whole v w left charged is f t h = laws.set_puts m n x whole v w left charged is f t h

part_fits : PartLaws → (s : Selected) (m n : Mode) (whole v : Option Datum) (left charged : ℕ) → mode_at m s ≡ Some n → Fits m whole → part_of s whole left ≡ Gives v charged → Fits n v
part_fits laws (Round x) m n whole v left charged is f h = laws.values m n x whole v left charged is f h
part_fits laws (Brace x) m n whole v left charged is f h = laws.images m n x whole v left charged is f h

-- ---- several selectors

same_mode : (P : Mode → Type 0) (m n : Mode) → Some m ≡ Some n → P n → P m
same_mode P m n h p = subst P (sym (some_same m n h)) p

puts_fit : PartLaws → (at : List Selected) (m n : Mode) (whole v w : Option Datum) (left charged : ℕ) → part_mode m at ≡ Some n → Fits m whole → fits n v ≡ true → with_part_at_all at whole v left ≡ Gives w charged → fits m w ≡ true
puts_fit laws [] m n whole v w left charged is f t h = same_mode (λ k. fits k w ≡ true) m n is (subst (λ u. fits n u ≡ true) (gives_same v w 0 charged h) t)
puts_fit laws (s ∷ []) m n whole v w left charged is f t h =
    let i = inner (λ k. Some k) (mode_at m s) n is in
    put_fits laws s m n whole v w left charged (i.1 ∙ i.2) f t h
puts_fit laws (s ∷ r ∷ ss) m n whole v w left charged is f t h =
    let i = inner (λ k. part_mode k (r ∷ ss)) (mode_at m s) n is in
    let a = then_given (part_of s whole left) left (λ p now. then_with (with_part_at_all (r ∷ ss) p v now) now (λ new later. with_part_at s whole new later)) w charged h in
    let b = then_given (with_part_at_all (r ∷ ss) a.0 v (left - a.1)) (left - a.1) (λ new later. with_part_at s whole new later) w a.3 a.4 in
    let old = part_fits laws s m i.0 whole a.0 left a.1 i.1 f a.2 in
    let new = puts_fit laws (r ∷ ss) i.0 n a.0 v b.0 (left - a.1) b.1 i.2 old t b.2 in
    put_fits laws s m i.0 whole b.0 w ((left - a.1) - b.1) b.3 i.1 f new b.4

combined_fits : PartLaws → (o : Operator) (at : List Selected) (m n : Mode) (whole v w : Option Datum) (left charged : ℕ) → part_mode m at ≡ Some n → Fits m whole → combines o n v ≡ true → combined at whole (λ p now. op_of o (p ∷ v ∷ []) now) left ≡ Gives w charged → fits m w ≡ true
combined_fits laws o [] m n whole v w left charged is f t h = laws.combined o m whole v w left charged (same_mode (λ k. combines o k v ≡ true) m n is t) f h
combined_fits laws o (s ∷ ss) m n whole v w left charged is f t h =
    let by : Option Datum → ℕ → Outcome = λ p now. op_of o (p ∷ v ∷ []) now in
    let i = inner (λ k. part_mode k ss) (mode_at m s) n is in
    let a = then_given (part_of s whole left) left (λ p now. then_with (combined ss p by now) now (λ new later. with_part_at s whole new later)) w charged h in
    let b = then_given (combined ss a.0 by (left - a.1)) (left - a.1) (λ new later. with_part_at s whole new later) w a.3 a.4 in
    let old = part_fits laws s m i.0 whole a.0 left a.1 i.1 f a.2 in
    let new = combined_fits laws o ss i.0 n a.0 v b.0 (left - a.1) b.1 i.2 old t b.2 in
    put_fits laws s m i.0 whole b.0 w ((left - a.1) - b.1) b.3 i.1 f new b.4

parts_fit : PartLaws → (at : List Selected) (m n : Mode) (whole p : Option Datum) (left charged : ℕ) → part_mode m at ≡ Some n → Fits m whole → part_at_all at whole left ≡ Gives p charged → Fits n p
parts_fit laws [] m n whole p left charged is f h = subst (λ k. Fits k p) (some_same m n is) (subst (Fits m) (gives_same whole p 0 charged h) f)
parts_fit laws (s ∷ ss) m n whole p left charged is f h =
    let i = inner (λ k. part_mode k ss) (mode_at m s) n is in
    let a = then_given (part_of s whole left) left (λ q now. part_at_all ss q now) p charged h in
    let old = part_fits laws s m i.0 whole a.0 left a.1 i.1 f a.2 in
    parts_fit laws ss i.0 n a.0 p (left - a.1) a.3 i.2 old a.4

-- ---- taking out

abbrev left_of : Taken → Datum → Datum
left_of (TakesOut l v) d = l
left_of t d = d

rest_same : (a b : Datum) (u v : Option Datum) → TakesOut a u ≡ TakesOut b v → a ≡ b
rest_same a b u v h = ap (λ t. left_of t b) h

least_left : PartLaws → (m : Mode) (ms : Elements) (ds : List Datum) (small : Datum) (v : Option Datum) → Fits m (Some (set ms)) → element_list ms ≡ ds → take_least ds ≡ TakesOut small v → datum_fits m small ≡ true
least_left laws m ms [] small v f e h = absurd (cc)
least_left laws m ms (d ∷ ds) small v f e h =
    let all : set ms ≡ set_of (d ∷ ds) = ap set (sym (elements_of-element_list ms) ∙ ap elements_of e) in
    subst (λ x. datum_fits m x ≡ true) (rest_same (set_of ds) small (Some d) v h)
    (laws.least m d ds (subst IsRising e f.0.1) (subst (λ x. datum_fits m x ≡ true) all f.1))

first_left : PartLaws → (m : Mode) (ps : Parts) (qs : List (Option Datum)) (small : Datum) (v : Option Datum) → Fits m (Some (tuple ps)) → part_list ps ≡ qs → take_first qs ≡ TakesOut small v → datum_fits m small ≡ true
first_left laws m ps [] small v f e h = absurd (cc)
first_left laws m ps (q ∷ qs) small v f e h =
    let all : tuple ps ≡ tuple_of (q ∷ qs) = ap tuple (sym (parts_of-part_list ps) ∙ ap parts_of e) in
    subst (λ x. datum_fits m x ≡ true) (rest_same _ small q v h) (laws.first m q qs (subst (λ x. datum_fits m x ≡ true) all f.1))

last_left : PartLaws → (m : Mode) (ps : Parts) (qs : List (Option Datum)) (small : Datum) (v : Option Datum) → Fits m (Some (tuple ps)) → reverse (part_list ps) ≡ qs → take_last qs ≡ TakesOut small v → datum_fits m small ≡ true
last_left laws m ps [] small v f e h = absurd (cc)
last_left laws m ps (q ∷ qs) small v f e h =
    let all : tuple ps ≡ tuple_of (part_list ps) = ap tuple (sym (parts_of-part_list ps)) in
    subst (λ x. datum_fits m x ≡ true) (rest_same _ small q v h) (laws.last m q (part_list ps) qs e (subst (λ x. datum_fits m x ≡ true) all f.1))

-- what is left over of a part that fits fits
left_fits : PartLaws → (end : Taking) (m : Mode) (p : Option Datum) (small : Datum) (v : Option Datum) → Fits m p → take_out end p ≡ TakesOut small v → datum_fits m small ≡ true
left_fits laws TakeLeast m (Some (set ms)) small v f h = least_left laws m ms (element_list ms) small v f refl h
left_fits laws TakeFirst m (Some (tuple ps)) small v f h = first_left laws m ps (part_list ps) small v f refl h
left_fits laws TakeLast m (Some (tuple ps)) small v f h = last_left laws m ps (reverse (part_list ps)) small v f refl h
left_fits laws TakeLeast m None small v f h = absurd (cc)
left_fits laws TakeLeast m (Some (bool b)) small v f h = absurd (cc)
left_fits laws TakeLeast m (Some (int z)) small v f h = absurd (cc)
left_fits laws TakeLeast m (Some (text t)) small v f h = absurd (cc)
left_fits laws TakeLeast m (Some (atom n)) small v f h = absurd (cc)
left_fits laws TakeLeast m (Some (tuple ps)) small v f h = absurd (cc)
left_fits laws TakeFirst m None small v f h = absurd (cc)
left_fits laws TakeFirst m (Some (bool b)) small v f h = absurd (cc)
left_fits laws TakeFirst m (Some (int z)) small v f h = absurd (cc)
left_fits laws TakeFirst m (Some (text t)) small v f h = absurd (cc)
left_fits laws TakeFirst m (Some (atom n)) small v f h = absurd (cc)
left_fits laws TakeFirst m (Some (set ms)) small v f h = absurd (cc)
left_fits laws TakeLast m None small v f h = absurd (cc)
left_fits laws TakeLast m (Some (bool b)) small v f h = absurd (cc)
left_fits laws TakeLast m (Some (int z)) small v f h = absurd (cc)
left_fits laws TakeLast m (Some (text t)) small v f h = absurd (cc)
left_fits laws TakeLast m (Some (atom n)) small v f h = absurd (cc)
left_fits laws TakeLast m (Some (set ms)) small v f h = absurd (cc)

rest_fits : PartLaws → (t : Taken) (at : List Selected) (m n : Mode) (whole new : Option Datum) (turns : ℕ) (o : TakenOut) → part_mode m at ≡ Some n → Fits m whole → ((small : Datum) (v : Option Datum) → t ≡ TakesOut small v → datum_fits n small ≡ true) → TakesPart t at whole turns new (Ok o) → fits m new ≡ true
rest_fits laws (TakesOut small v) at m n whole new turns o is f left h = go (with_part_at_all at whole (Some small) turns) refl h.2
  where
    go : (p : Outcome) → with_part_at_all at whole (Some small) turns ≡ p → Leaves p turns new o.left → fits m new ≡ true
    go (Gives z c) e u = puts_fit laws at m n whole (Some small) new turns c is f (left small v refl) (e ∙ ap (λ y. Gives y c) u.0)
    go (Fails g) e u = absurd u
    go Overspends e u = absurd u
rest_fits laws IsEmpty at m n whole new turns o is f left h = subst (λ y. fits m y ≡ true) (sym h.2) f.1
rest_fits laws (CannotTake g) at m n whole new turns o is f left h = absurd h

taken_fits : PartLaws → (end : Taking) (at : List Selected) (m n : Mode) (whole new : Option Datum) (turns : ℕ) (o : TakenOut) → part_mode m at ≡ Some n → Fits m whole → Takes end at whole turns new (Ok o) → fits m new ≡ true
taken_fits laws end at m n whole new turns o is f h = go (part_at_all at whole turns) refl h
  where
    go : (p : Outcome) → part_at_all at whole turns ≡ p → TakesFrom p end at whole turns new (Ok o) → fits m new ≡ true
    go (Gives p c) e u =
        let old = parts_fit laws at m n whole p turns c is f e in
        rest_fits laws (take_out end p) at m n whole new (turns - c) o is f (λ small v h. left_fits laws end n p small v old h) u
    go (Fails g) e u = absurd u
    go Overspends e u = absurd u

-- ---- by what is declared

updated_fits : (m : Mode) (o : Outcome) (turns : ℕ) (new whole : Option Datum) (r : Result ℕ OpFault) → ((c : ℕ) → o ≡ Gives new c → fits m new ≡ true) → fits m whole ≡ true → Updates o turns new r → OnErr r (new ≡ whole) → fits m new ≡ true
updated_fits m (Gives z c) turns new whole (Ok left) h f u e = h c (ap (λ y. Gives y c) u.0)
updated_fits m (Fails g) turns new whole (Ok left) h f u e = absurd u
updated_fits m Overspends turns new whole (Ok left) h f u e = absurd u
updated_fits m o turns new whole (Err g) h f u e = subst (λ y. fits m y ≡ true) (sym e) f

put_taken : PartLaws → (m : Option Mode) (at : List Selected) (whole v new : Option Datum) (turns : ℕ) (r : Result ℕ OpFault) → decides_put m at v ≡ true → PartIsWellFormed whole → Updates (with_part_at_all at whole v turns) turns new r → OnErr r (new ≡ whole) → is_taken m whole ≡ true → is_taken m new ≡ true
put_taken laws None at whole v new turns r d formed u e f = refl
put_taken laws (Some m) at whole v new turns r d formed u e f =
    let n = passed (λ n. fits n v) (part_mode m at) d in
    updated_fits m (with_part_at_all at whole v turns) turns new whole r (λ c h. puts_fit laws at m n.0 whole v new turns c n.1 (formed, f) n.2 h) f u e

combined_taken : PartLaws → (o : Operator) (m : Option Mode) (at : List Selected) (whole v new : Option Datum) (turns : ℕ) (r : Result ℕ OpFault) → decides_combined o m at v ≡ true → PartIsWellFormed whole → Updates (combined at whole (λ p now. op_of o (p ∷ v ∷ []) now) turns) turns new r → OnErr r (new ≡ whole) → is_taken m whole ≡ true → is_taken m new ≡ true
combined_taken laws o None at whole v new turns r d formed u e f = refl
combined_taken laws o (Some m) at whole v new turns r d formed u e f =
    let n = passed (λ n. combines o n v) (part_mode m at) d in
    updated_fits m (combined at whole (λ p now. op_of o (p ∷ v ∷ []) now) turns) turns new whole r (λ c h. combined_fits laws o at m n.0 whole v new turns c n.1 (formed, f) n.2 h) f u e

rest_taken : PartLaws → (end : Taking) (m : Option Mode) (at : List Selected) (whole new : Option Datum) (turns : ℕ) (t : TakenOut) → decides_taken m at ≡ true → PartIsWellFormed whole → Takes end at whole turns new (Ok t) → is_taken m whole ≡ true → is_taken m new ≡ true
rest_taken laws end None at whole new turns t d formed h f = refl
rest_taken laws end (Some m) at whole new turns t d formed h f =
    let n = passed (λ n. true) (part_mode m at) d in
    taken_fits laws end at m n.0 whole new turns t n.1 (formed, f) h

-- ---- of a store

pub mode_is : (modes : Modes) (x : Variable) (d : Option Declaration) → IsDeclared modes x d → declared_mode modes x ≡ mode_by d
mode_is modes x None h = h
mode_is modes x (Some d) h = h.0

-- the variable takes the new whole, where its declaration does if it takes what it held
pub still_taken : HeldFits → (modes : Modes) (k : CodeCore) (x : Variable) (d : Option Declaration) (whole new : Option Datum) → IsDeclared modes x d → Fitting modes k → held x k ≡ There whole → (is_taken (mode_by d) whole ≡ true → is_taken (mode_by d) new ≡ true) → tested modes x new ≡ true
still_taken holds modes k x d whole new declared fit was takes =
    let is = mode_is modes x d declared in
    subst (λ m. is_taken m new ≡ true) (sym is) (takes (subst (λ m. is_taken m whole ≡ true) is (holds modes k x whole fit was)))

-- what the variable held is in hand
held_there : (old mid gone : Standing) (x : Slot) (v w : Option Value) → PopsTop old (Some v) mid → TakesHeld (plain_slot (variables mid.core) x) mid (Some w) gone → held (plain_slot (variables old.core) x) old.core ≡ There (part w)
held_there old mid gone x v w pops takes = let h : InHand old x mid.core.now.operands (part w) gone = taken_held old mid x w gone pops.1 takes in h.was

pub put_sure : PartLaws → HeldFits → (modes : Modes) (old mid gone : Standing) (x : Slot) (d : Option Declaration) (at : List Selected) (v w w' : Option Value) (turns : ℕ) (r : Result ℕ OpFault) →
    IsDeclared modes (plain_slot (variables old.core) x) d → Fitting modes old.core → PopsTop old (Some v) mid → TakesHeld (plain_slot (variables mid.core) x) mid (Some w) gone → decides_put (mode_by d) at (part v) ≡ true → PartIsWellFormed (part w) →
    Updates (with_part_at_all at (part w) (part v) turns) turns (part w') r → OnErr r (w' ≡ w) → tested modes (plain_slot (variables old.core) x) (part w') ≡ true
put_sure laws holds modes old mid gone x d at v w w' turns r declared fit pops takes sure formed u refused =
    still_taken holds modes old.core (plain_slot (variables old.core) x) d (part w) (part w') declared fit (held_there old mid gone x v w pops takes)
    (put_taken laws (mode_by d) at (part w) (part v) (part w') turns r sure formed u (parts_refused r w' w refused))

pub combined_sure : PartLaws → HeldFits → (modes : Modes) (old mid gone : Standing) (x : Slot) (o : Operator) (d : Option Declaration) (at : List Selected) (v w w' : Option Value) (turns : ℕ) (r : Result ℕ OpFault) →
    IsDeclared modes (plain_slot (variables old.core) x) d → Fitting modes old.core → PopsTop old (Some v) mid → TakesHeld (plain_slot (variables mid.core) x) mid (Some w) gone → decides_combined o (mode_by d) at (part v) ≡ true → PartIsWellFormed (part w) →
    Updates (combined at (part w) (λ p now. op_of o (p ∷ part v ∷ []) now) turns) turns (part w') r → OnErr r (w' ≡ w) → tested modes (plain_slot (variables old.core) x) (part w') ≡ true
combined_sure laws holds modes old mid gone x o d at v w w' turns r declared fit pops takes sure formed u refused =
    still_taken holds modes old.core (plain_slot (variables old.core) x) d (part w) (part w') declared fit (held_there old mid gone x v w pops takes)
    (combined_taken laws o (mode_by d) at (part w) (part v) (part w') turns r sure formed u (parts_refused r w' w refused))

pub taken_sure : PartLaws → HeldFits → (modes : Modes) (old gone : Standing) (x : Slot) (end : Taking) (d : Option Declaration) (at : List Selected) (w w' : Option Value) (turns : ℕ) (t : TakenOut) →
    IsDeclared modes (plain_slot (variables old.core) x) d → Fitting modes old.core → TakesHeld (plain_slot (variables old.core) x) old (Some w) gone → decides_taken (mode_by d) at ≡ true → PartIsWellFormed (part w) →
    Takes end at (part w) turns (part w') (Ok t) → tested modes (plain_slot (variables old.core) x) (part w') ≡ true
taken_sure laws holds modes old gone x end d at w w' turns t declared fit takes sure formed h =
    still_taken holds modes old.core (plain_slot (variables old.core) x) d (part w) (part w') declared fit takes.0
    (rest_taken laws end (mode_by d) at (part w) (part w') turns t sure formed h)
