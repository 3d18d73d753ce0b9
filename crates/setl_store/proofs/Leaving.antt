-- What a return hands back, and what it leaves.
use Rattle.std.proofs.Common.{◌≡◌, ℕ, zero, suc, ◌+◌, ◌-◌, ◌≤◌, false, List, [], ◌∷◌, ◌++◌, length, take, drop, map, reverse, refl, sym, ap, ◌∙◌, subst, arith, Option, Some, None}
use Rattle.std.specs.Prelude.{slice_get, cond}
use Rattle.std.specs.Option.{option_map}
use Rattle.std.specs.Global.{Vec}
use Rattle.std.proofs.lemmas.List.{reverse-append, append_assoc, append-nil, length-map, length-reverse, length-take-le, take-map, take-take, length-drop, drop-map}
use Rattle.std.proofs.lemmas.Option.{same_Some}
use Rattle.setl_value.specs.Datum.{Datum}
use Rattle.setl_value.specs.code.DatumOf.{datum, part}
use Rattle.setl_value.specs.declared.Value.{Value}
use Rattle.setl_tree.specs.declared.tree.Param.{Param}
use Rattle.setl_tree.specs.declared.tree.Passing.{Passing}
use Rattle.setl_tree.specs.declared.tree.Passing.TheVariants.{Rd, Wr, Rw}
use Rattle.setl_model_runs.specs.Variable.{Variable, is_variable}
use Rattle.setl_model_runs.specs.VariableLaws.{variable_itself}
use Rattle.setl_program.specs.Program.{Parameter}
use Rattle.setl_program.specs.ProgramOf.{parameter_of}
use Rattle.setl_model.specs.Calls.{parameter}
use Rattle.setl_code.specs.declared.code.Body.{Body}
use Rattle.setl_code.specs.declared.code.Code.{Code}
use Rattle.setl_code.specs.Code as plain
use Rattle.setl_code.specs.CodeCore as core
use Rattle.setl_code.specs.CodeCore.{Held, There, Gone, Cells, held_in, CodeCore}
use Rattle.setl_code.specs.Machine.{hand, push_held, handed_back}
use Rattle.setl_code.specs.MayRun.{Differ, MayRun}
use Rattle.setl_code.specs.Names.{is_among}
use Rattle.setl_code.specs.Plain.{plain_body, plain_code, plain_name}
use Rattle.setl_rep_bases.specs.Bases.{BasesState}
use Rattle.setl_store.specs.declared.cells.Frame.{Frame}
use Rattle.setl_store_slots.specs.declared.cells.Held.{Held as Slot}
use Rattle.setl_store_slots.specs.declared.cells.Held.TheVariants as slot
use Rattle.setl_store_slots.specs.Handed.{and_held, and_handed}
use Rattle.setl_store_slots.specs.Handed as cells
use Rattle.setl_store_slots.specs.Slots.{AreStanding}
use Rattle.setl_rep_plain.specs.Standing.{held_value}
use Rattle.setl_store_operands.specs.declared.cells.Operand.{Operand}
use Rattle.setl_store.specs.Bodies.{left, left_for}
use Rattle.setl_store.specs.declared.cells.Kept.{Kept}
use Rattle.setl_store_operands.specs.Operands.{HasMembers, members_below, operand_by, operand_of}
use Rattle.setl_store.specs.Flat.{Here, cells, held_of, helds, results, body_in, slots_in, operands_in, activation, callers, core_of, stands, own_count_of, AllGot, IsShaped, IsSound, AllSound, with_operand, without}
use Rattle.setl_store.specs.Returning.{pushed_on, handed, handed_by, handed_in, parameter_count_of}
use Rattle.setl_store.specs.Standing.{Standing, variables_by, over}
use Rattle.setl_store.proofs.Bodies.{body_at, names_same, names_differ}
use Rattle.setl_store.proofs.Entering.{among_left, core_over}
use Rattle.setl_store.proofs.OperandLists.{has_below, below_within, cut_results, got_take, Changed, pushes, still}
use Rattle.setl_store.proofs.Slots.{or_false, cells_agree, own_counted, globals_below}
use Rattle.setl_store.proofs.StandingOperands.{over_take, value_over}
use Rattle.setl_store.proofs.StandingSlots.{standing_take}
use Rattle.setl_store.proofs.Steps.{counted}

-- ---- the members of lower operands

pub take_one_more : {A : Type 0} (n : ℕ) (xs : List A) (x : A) → Some x ≡ slice_get xs n → take (suc n) xs ≡ take n xs ++ x ∷ []
take_one_more n [] x e = absurd (cc)
take_one_more zero (y ∷ ys) x e = ap (λ z. z ∷ []) (sym (same_Some x y e))
take_one_more (suc n) (y ∷ ys) x e = ap (λ l. y ∷ l) (take_one_more n ys x e)

-- without the last of these operands
pub one_lower : (os : List Operand) (k n less : ℕ) (o : Operand) (ms left : ℕ) → k ≡ n + 1 → less ≡ n → Some o ≡ slice_get os n → left ≡ members_below o ms → HasMembers (reverse (take k os)) ms →
    HasMembers (reverse (take less os)) left × (left ≤ ms)
one_lower os k n less o ms left more same is below h =
    let up : k ≡ suc n = omega (arith, more) in
    let apart = ap (λ m. reverse (take m os)) up ∙ ap reverse (take_one_more n os o is) ∙ reverse-append (take n os) (o ∷ []) in
    let has = subst (λ l. HasMembers l ms) apart h in (
      subst (λ m. HasMembers (reverse (take m os)) left) (sym same) (subst (HasMembers (reverse (take n os))) (sym below) (has_below o (reverse (take n os)) ms has)),
      subst (λ m. m ≤ ms) (sym below) (below_within o (reverse (take n os)) ms has),
    )

-- ---- values that are pushed

abbrev with_operands : Here → List Operand → Here
with_operands e os = record e { operands = e.operands ++ os }

alone : (v : Option Value) (os : List Operand) (n : ℕ) → HasMembers os n → HasMembers (operand_by v ∷ os) n
alone None os n h = h
alone (Some v) os n h = h

stands_for : (bs : BasesState) (v : Option Value) (e : Here) → operand_of bs e.members (operand_by v) ≡ core.Result (part v)
stands_for bs None e = refl
stands_for bs (Some v) e = refl

pub pushes_all : (vs : List (Option Value)) (code : Code) (bs : BasesState) (keeps : ℕ) (at : ℕ) (e e' : Here) (kept kept' : List (Here × Kept)) (s : Standing) →
    MayRun code × IsSound (plain_code code) bs e × AllSound (plain_code code) bs keeps e.slots kept → stands code bs at e kept ≡ s →
    e' ≡ record e { operands = e.operands ++ map operand_by vs } → kept' ≡ kept → Changed code bs keeps at e' kept' s (over (pushed_on (map part vs) s.core.now.operands) s.core)
pushes_all [] code bs keeps at e e' kept kept' s h is now same =
    let to : e' ≡ e = now ∙ ap (λ os. record e { operands = os }) (append-nil e.operands) in
    record {
      stands = (λ i. stands code bs at (to i) (same i)) ∙ is;
      holds = (h.0, subst (IsSound (plain_code code) bs) (sym to) h.1, still (plain_code code) bs keeps e.slots e'.slots kept kept' (subst (λ (x : Here). AreStanding bs x.slots) (sym to) h.2.standing) same h.2);
    }
pushes_all (v ∷ vs) code bs keeps at e e' kept kept' s h is now same =
    let o = operand_by v in
    let first = pushes code bs keeps at e (with_operand e o) kept kept s o (core.Result (part v)) h is refl refl (alone v (reverse e.operands) (length e.members) h.1.members) tt (value_over bs v) (stands_for bs v e) in
    let rest = pushes_all vs code bs keeps at (with_operand e o) e' kept kept' (record s { core = over (core.Result (part v) ∷ s.core.now.operands) s.core }) first.holds first.stands
    (now ∙ ap (λ os. record e { operands = os }) (sym (append_assoc e.operands (o ∷ []) (map operand_by vs)))) same in
    record { stands = rest.stands; holds = rest.holds }

-- ---- values that are handed back

pub pushed_last : (vs : List (Option Datum)) (v : Option Datum) (xs : List core.Operand) → pushed_on (vs ++ v ∷ []) xs ≡ core.Result v ∷ pushed_on vs xs
pushed_last [] v xs = refl
pushed_last (w ∷ vs) v xs = pushed_last vs v (core.Result w ∷ xs)

-- what one parameter hands back, as values and as operands
held_too : (bs : BasesState) (h : Slot) (o : Option (List (Option Datum))) (xs : List core.Operand) → push_held (held_of bs h) (option_map (λ vs. pushed_on vs xs) o) ≡ option_map (λ vs. pushed_on vs xs) (and_held bs h o)
held_too bs slot.Om None xs = refl
held_too bs slot.Om (Some vs) xs = ap (λ l. Some l) (sym (pushed_last vs None xs))
held_too bs (slot.Value v) None xs = refl
held_too bs (slot.Value v) (Some vs) xs = ap (λ l. Some l) (sym (pushed_last vs (Some (datum v)) xs))
held_too bs slot.Taken None xs = refl
held_too bs slot.Taken (Some vs) xs = refl
held_too bs (slot.Based m h) None xs = refl
held_too bs (slot.Based m h) (Some vs) xs = ap (λ l. Some l) (sym (pushed_last vs (held_value bs h) xs))

handed_too : (bs : BasesState) (p : Passing) (h : Slot) (o : Option (List (Option Datum))) (xs : List core.Operand) → hand p (held_of bs h) (option_map (λ vs. pushed_on vs xs) o) ≡ option_map (λ vs. pushed_on vs xs) (and_handed bs p h o)
handed_too bs Rd h o xs = refl
handed_too bs Wr h o xs = held_too bs h o xs
handed_too bs Rw h o xs = held_too bs h o xs

all_handed : (bs : BasesState) (ps : List Param) (hs : List Slot) (v : Option Datum) (xs : List core.Operand) → handed ps (map (held_of bs) hs) (core.Result v ∷ xs) ≡ option_map (λ vs. pushed_on vs xs) (cells.handed bs ps hs v)
all_handed bs [] hs v xs = refl
all_handed bs (p ∷ ps) [] v xs = refl
all_handed bs (p ∷ ps) (h ∷ hs) v xs = ap (hand p.passing (held_of bs h)) (all_handed bs ps hs v xs) ∙ handed_too bs p.passing h (cells.handed bs ps hs v) xs

in_turn : (all : Option (Vec (Option Value))) (xs : List core.Operand) → option_map (λ vs. pushed_on vs xs) (option_map (λ (values : Vec (Option Value)). map part values.items) all) ≡ option_map (λ (values : Vec (Option Value)). pushed_on (map part values.items) xs) all
in_turn None xs = refl
in_turn (Some values) xs = refl

-- the values that are handed back are the operands
pub handed_slots : (bs : BasesState) (ps : List Param) (slots : List Slot) (lowest : ℕ) (v : Option Datum) (all : Option (Vec (Option Value))) → cells.handed bs ps (drop lowest slots) v ≡ option_map (λ (values : Vec (Option Value)). map part values.items) all →
    (xs : List core.Operand) → handed ps (drop lowest (map (held_of bs) slots)) (core.Result v ∷ xs) ≡ option_map (λ (values : Vec (Option Value)). pushed_on (map part values.items) xs) all
handed_slots bs ps slots lowest v all h xs =
    ap (λ hs. handed ps hs (core.Result v ∷ xs)) (drop-map (held_of bs) lowest slots)
    ∙ all_handed bs ps (drop lowest slots) v xs
    ∙ ap (option_map (λ vs. pushed_on vs xs)) h
    ∙ in_turn all xs

-- ---- the same, by variables

-- the slot of another variable doesn't matter
skipped : (n : ℕ) (qs : List Parameter) (x : Variable) (h : Held) (ss : Cells) (xs : List core.Operand) → is_among (map (parameter n) qs) x ≡ false → handed_back n qs ((x, h) ∷ ss) xs ≡ handed_back n qs ss xs
skipped n [] x h ss xs a = refl
skipped n (q ∷ qs) x h ss xs a =
    let parts = or_false (is_variable x (parameter n q)) (is_among (map (parameter n) qs) x) a in
    let first = ap (λ b. cond b h (held_in ss (parameter n q))) parts.0 in
    let rest = skipped n qs x h ss xs parts.1 in
    λ i. hand q.passing (first i) (rest i)

handed_same : (n : ℕ) (ps : List Param) (names : List Variable) (hs : List Held) (xs : List core.Operand) → Differ (map (parameter n) (map parameter_of ps) ++ names) → length ps ≤ length hs →
    handed_back n (map parameter_of ps) (cells (map (parameter n) (map parameter_of ps) ++ names) hs) xs ≡ handed ps hs xs
handed_same n [] names hs xs d l = refl
handed_same n (p ∷ ps) names [] xs d l = absurd (omega (arith, l))
handed_same n (p ∷ ps) names (h ∷ hs) xs d l =
    let x = parameter n (parameter_of p) in
    let others = map (parameter n) (map parameter_of ps) in
    let first = ap (λ b. cond b h (held_in (cells (others ++ names) hs) x)) (variable_itself x) in
    let rest = skipped n (map parameter_of ps) x h (cells (others ++ names) hs) xs (among_left others names x d.0) ∙ handed_same n ps names hs xs d.1 (omega (arith, l)) in
    λ i. hand p.passing (first i) (rest i)

abbrev caller_with : CodeCore → core.Activation → List core.Activation → List core.Operand → CodeCore
caller_with k c cs xs = record k { now = record c { operands = xs }; callers = cs }

left_by : (vars : List Variable) (n : ℕ) (b : Option Body) (hs : List Held) (v : Option Datum) (k : CodeCore) (c : core.Activation) (cs : List core.Activation) →
    Differ (variables_by n (option_map (plain_body vars n) b)) → parameter_count_of b ≤ length hs → k.now.body ≡ n → k.now.own ≡ cells (variables_by n (option_map (plain_body vars n) b)) hs → k.callers ≡ c ∷ cs →
    left (option_map (plain_body vars n) b) v k ≡ option_map (caller_with k c cs) (handed_by b hs (core.Result v ∷ c.operands))
left_by vars n None hs v k c cs d l number own waits = refl
left_by vars n (Some b) hs v k c cs d l number own waits =
    let ps = map parameter_of b.parameters in
    ap (left_for (plain_body vars n b) v k) waits
    ∙ ap (option_map (caller_with k c cs)) ((λ i. handed_back (number i) ps (own i) (core.Result v ∷ c.operands)) ∙ handed_same n b.parameters (map (plain_name n) b.names) hs (core.Result v ∷ c.operands) d l)

left_outermost : (b : Option plain.Body) (v : Option Datum) (k : CodeCore) → k.callers ≡ [] → left b v k ≡ None
left_outermost None v k none = refl
left_outermost (Some b) v k none = ap (left_for b v k) none

-- the operands of the one that waits
abbrev pub under : List Frame → List core.Operand → List core.Operand
under [] os = []
under (f ∷ []) os = []
under (f ∷ g ∷ fs) os = operands_in (g ∷ fs) (take f.operands os)

abbrev pub given_back : plain.Code → BasesState → ℕ → List Frame → List Held → List core.Operand → List (Here × Kept) → List core.Operand → CodeCore
given_back c bs at [] hs os kept xs = core_over c bs at [] hs os kept
given_back c bs at (f ∷ []) hs os kept xs = core_over c bs at (f ∷ []) hs os kept
given_back c bs at (f ∷ g ∷ fs) hs os kept xs =
    caller_with (core_over c bs at (f ∷ g ∷ fs) hs os kept) (activation c f.from (g ∷ fs) (take f.slots hs) (take f.operands os)) (callers c (g ∷ fs) (take f.slots hs) (take f.operands os)) xs

counted_first : (b : Option Body) → parameter_count_of b ≤ own_count_of b
counted_first None = omega arith
counted_first (Some b) = omega arith

pub parameters_within : (code : Code) (f : Frame) (fs : List Frame) (n m : ℕ) → IsShaped (plain_code code) (f ∷ fs) n m → f.slots + parameter_count_of (slice_get code.bodies f.body) ≤ n
parameters_within code f fs n m h =
    let own = own_counted (plain_code code) f fs n m h in
    let all = ap length (names_same code f.body) ∙ counted f.body (slice_get code.bodies f.body) in
    omega (arith, own, all, counted_first (slice_get code.bodies f.body))

pub parameters_there : (code : Code) (fs : List Frame) (n m : ℕ) → IsShaped (plain_code code) fs n m → slots_in fs + parameter_count_of (slice_get code.bodies (body_in fs)) ≤ n
parameters_there code [] n m h = absurd h
parameters_there code (f ∷ fs) n m h = parameters_within code f fs n m h

left_flat : (code : Code) (bs : BasesState) (at : ℕ) (fs : List Frame) (hs : List Held) (os : List core.Operand) (kept : List (Here × Kept)) (v : Option Datum) (m : ℕ) → MayRun code → IsShaped (plain_code code) fs (length hs) m →
    left (slice_get (plain_code code).bodies (body_in fs)) v (core_over (plain_code code) bs at fs hs os kept)
    ≡ option_map (given_back (plain_code code) bs at fs hs os kept) (handed_in code.bodies fs hs (core.Result v ∷ under fs os))
left_flat code bs at [] hs os kept v m may h = absurd h
left_flat code bs at (f ∷ []) hs os kept v m may h = left_outermost (slice_get (plain_code code).bodies f.body) v (core_over (plain_code code) bs at (f ∷ []) hs os kept) refl
left_flat code bs at (f ∷ g ∷ fs) hs os kept v m may h =
    let c = plain_code code in
    let n = f.body in
    let k = core_over c bs at (f ∷ g ∷ fs) hs os kept in
    let body = body_at c.vars 0 code.bodies n n (omega arith) in
    let within : parameter_count_of (slice_get code.bodies n) ≤ length (drop f.slots hs) = omega (arith, parameters_within code f (g ∷ fs) (length hs) m h, length-drop f.slots hs) in
    ap (λ b. left b v k) body
    ∙ left_by c.vars n (slice_get code.bodies n) (drop f.slots hs) v k (activation c f.from (g ∷ fs) (take f.slots hs) (take f.operands os)) (callers c (g ∷ fs) (take f.slots hs) (take f.operands os))
    (subst (λ b. Differ (variables_by n b)) body (names_differ code n may)) within refl (ap (λ b. cells (variables_by n b) (drop f.slots hs)) body) refl

-- ---- the store that is left

abbrev rest_of : Here → List Frame
rest_of e = reverse (take (length e.activations - 1) e.activations)

dropped : (c : plain.Code) (bs : BasesState) (at : ℕ) (e : Here) (kept : List (Here × Kept)) (f g : Frame) (fs : List Frame) (m : ℕ) → IsShaped c (f ∷ g ∷ fs) (length e.slots) (length e.operands) → rest_of e ≡ g ∷ fs →
    HasMembers (reverse (take f.operands e.operands)) m → m ≤ length e.members →
    core_of c bs f.from (without e f m) kept ≡ given_back c bs at (f ∷ g ∷ fs) (helds bs e) (results bs e) kept (under (f ∷ g ∷ fs) (results bs e))
dropped c bs at e kept f g fs m h rest has within =
    let hs = helds bs e in
    let os = results bs e in
    let slots : map (held_of bs) (take f.slots e.slots) ≡ take f.slots hs = sym (take-map (held_of bs) f.slots e.slots) in
    let operands : results bs (without e f m) ≡ take f.operands os = cut_results bs e f.operands m has within in
    let globals = cells_agree c.vars (take f.slots hs) hs f.slots (globals_below c f (g ∷ fs) (length e.slots) (length e.operands) h) (take-take f.slots f.slots hs (omega arith)) in
    (λ i. core_over c bs f.from (rest i) (slots i) (operands i) kept)
    ∙ (λ i. record (core_over c bs f.from (g ∷ fs) (take f.slots hs) (take f.operands os) kept) { globals = globals i })

dropped_sound : (c : plain.Code) (bs : BasesState) (e : Here) (f g : Frame) (fs : List Frame) (m : ℕ) → IsSound c bs e → IsShaped c (f ∷ g ∷ fs) (length e.slots) (length e.operands) → rest_of e ≡ g ∷ fs →
    HasMembers (reverse (take f.operands e.operands)) m → m ≤ length e.members → IsSound c bs (without e f m)
dropped_sound c bs e f g fs m sound h rest has within =
    let own = own_counted c f (g ∷ fs) (length e.slots) (length e.operands) h in
    let slots : f.slots ≡ length (take f.slots e.slots) = sym (length-take-le f.slots e.slots (omega (arith, own))) in
    let operands : f.operands ≡ length (take f.operands e.operands) = sym (length-take-le f.operands e.operands h.1) in
    let left = take (length e.activations - 1) e.activations in
    record {
      some = omega (arith, length-reverse left, ap length rest);
      shaped =
          subst (λ l. IsShaped c l (length (take f.slots e.slots)) (length (take f.operands e.operands))) (sym rest)
          (subst (λ n. IsShaped c (g ∷ fs) n (length (take f.operands e.operands))) slots (subst (λ n. IsShaped c (g ∷ fs) f.slots n) operands h.2));
      members = subst (HasMembers (reverse (take f.operands e.operands))) (sym (length-take-le m e.members within)) has;
      got = subst AllGot (sym (cut_results bs e f.operands m has within)) (got_take f.operands (results bs e) sound.got);
      operands = over_take bs f.operands e.operands sound.operands;
    }

-- what is known where the body at work is left
pub record Drops (e e' : Here) (f : Frame) (m : ℕ) (vs : List (Option Value)) : Type 0 where
  pub last : reverse e.activations ≡ f ∷ rest_of e
  pub has : HasMembers (reverse (take f.operands e.operands)) m
  pub within : m ≤ length e.members
  pub pushed : e' ≡ record (without e f m) { operands = take f.operands e.operands ++ map operand_by vs }

left_rest : (code : Code) (bs : BasesState) (keeps : ℕ) (at : ℕ) (e : Here) (kept : List (Here × Kept)) (f : Frame) (m : ℕ) (v : Option Datum) (vs : List (Option Value)) (gs : List Frame) → MayRun code × IsSound (plain_code code) bs e × AllSound (plain_code code) bs keeps e.slots kept →
    reverse e.activations ≡ f ∷ gs → rest_of e ≡ gs → HasMembers (reverse (take f.operands e.operands)) m → m ≤ length e.members →
    ((xs : List core.Operand) → handed_in code.bodies (reverse e.activations) (helds bs e) (core.Result v ∷ xs) ≡ Some (pushed_on (map part vs) xs)) →
    (left (slice_get (plain_code code).bodies (body_in (reverse e.activations))) v (core_of (plain_code code) bs at e kept) ≡ Some (over (pushed_on (map part vs) (core_of (plain_code code) bs f.from (without e f m) kept).now.operands) (core_of (plain_code code) bs f.from (without e f m) kept)))
    × IsSound (plain_code code) bs (without e f m)
left_rest code bs keeps at e kept f m v vs [] h last rest has within back =
    absurd (let e : None ≡ Some (pushed_on (map part vs) []) = subst (λ l. handed_in code.bodies l (helds bs e) (core.Result v ∷ []) ≡ Some (pushed_on (map part vs) [])) last (back []) in cc)
left_rest code bs keeps at e kept f m v vs (g ∷ fs) h last rest has within back =
    let c = plain_code code in
    let hs = helds bs e in
    let os = results bs e in
    let all = f ∷ g ∷ fs in
    let shaped : IsShaped c all (length e.slots) (length e.operands) = subst (λ l. IsShaped c l (length e.slots) (length e.operands)) last h.1.shaped in
    let shaped_hs : IsShaped c all (length hs) (length e.operands) = subst (λ n. IsShaped c all n (length e.operands)) (sym (length-map e.slots (held_of bs))) shaped in
    let after = pushed_on (map part vs) (under all os) in
    let to = dropped c bs at e kept f g fs m shaped rest has within in (
      subst (λ l. left (slice_get c.bodies (body_in l)) v (core_over c bs at l hs os kept) ≡ Some (given_back c bs at all hs os kept after)) (sym last)
          (left_flat code bs at all hs os kept v (length e.operands) h.0 shaped_hs
          ∙ ap (option_map (given_back c bs at all hs os kept)) (subst (λ l. handed_in code.bodies l hs (core.Result v ∷ under all os) ≡ Some after) last (back (under all os))))
          ∙ sym (ap (λ (k : CodeCore). Some (over (pushed_on (map part vs) k.now.operands) k)) to),
      dropped_sound c bs e f g fs m h.1 shaped rest has within,
    )

pub leaves : (code : Code) (bs : BasesState) (keeps : ℕ) (at : ℕ) (e e' : Here) (kept kept' : List (Here × Kept)) (s : Standing) (f : Frame) (m : ℕ) (v : Option Datum) (vs : List (Option Value)) →
    MayRun code × IsSound (plain_code code) bs e × AllSound (plain_code code) bs keeps e.slots kept → stands code bs at e kept ≡ s → Drops e e' f m vs → kept' ≡ kept →
    ((xs : List core.Operand) → handed_in code.bodies (reverse e.activations) (helds bs e) (core.Result v ∷ xs) ≡ Some (pushed_on (map part vs) xs)) →
    (left (slice_get (plain_code s.code).bodies s.core.now.body) v s.core ≡ Some (stands code bs f.from e' kept').core)
    × (MayRun code × IsSound (plain_code code) bs e' × AllSound (plain_code code) bs keeps e'.slots kept')
leaves code bs keeps at e e' kept kept' s f m v vs h is drops same back =
    let r = left_rest code bs keeps at e kept f m v vs (rest_of e) h drops.last refl drops.has drops.within back in
    let e0 = without e f m in
    let p = pushes_all vs code bs keeps f.from e0 e' kept kept' (stands code bs f.from e0 kept) (h.0, r.1, still (plain_code code) bs keeps e.slots e0.slots kept kept (standing_take bs f.slots e.slots h.2.standing) refl h.2) refl drops.pushed same in (
      subst (λ (t : Standing). left (slice_get (plain_code t.code).bodies t.core.now.body) v t.core ≡ Some (stands code bs f.from e' kept').core) is
          (r.0 ∙ sym (ap (λ (x : Standing). Some x.core) p.stands)),
      p.holds,
    )

-- where it can't be left
pub stays : (code : Code) (bs : BasesState) (keeps : ℕ) (at : ℕ) (e : Here) (kept : List (Here × Kept)) (s : Standing) (v : Option Datum) → MayRun code × IsSound (plain_code code) bs e × AllSound (plain_code code) bs keeps e.slots kept → stands code bs at e kept ≡ s →
    handed_in code.bodies (reverse e.activations) (helds bs e) (core.Result v ∷ under (reverse e.activations) (results bs e)) ≡ None → left (slice_get (plain_code s.code).bodies s.core.now.body) v s.core ≡ None
stays code bs keeps at e kept s v h is none =
    let c = plain_code code in
    let fs = reverse e.activations in
    let shaped = subst (λ n. IsShaped c fs n (length e.operands)) (sym (length-map e.slots (held_of bs))) h.1.shaped in
    subst (λ (t : Standing). left (slice_get (plain_code t.code).bodies t.core.now.body) v t.core ≡ None) is
    (left_flat code bs at fs (helds bs e) (results bs e) kept v (length e.operands) h.0 shaped ∙ ap (option_map (given_back c bs at fs (helds bs e) (results bs e) kept)) none)
