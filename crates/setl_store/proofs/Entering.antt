-- What a call enters, and where a code starts.
use Rattle.std.proofs.Common.{◌≡◌, ℕ, zero, suc, ◌+◌, ◌<◌, ◌≤◌, false, List, [], ◌∷◌, ◌++◌, length, drop, map, reverse, replicate, refl, sym, ap, ◌∙◌, subst, arith, Option, Some, None}
use Rattle.std.specs.Prelude.{slice_get, cond, ◌||◌, IfSome}
use Rattle.std.specs.Option.{option_map}
use Rattle.std.proofs.lemmas.List.{length-map, map-append, length-append, length-replicate, length_push, append_assoc, take-append-le, take_at, take_all, drop_at, drop_all, reverse-append}
use Rattle.setl_value.specs.Datum.{Datum}
use Rattle.setl_value.specs.code.DatumOf.{part}
use Rattle.setl_value.specs.declared.Value.{Value}
use Rattle.setl_model_runs.specs.Run.{Store}
use Rattle.setl_model_runs.specs.Variable.{Variable, Global, is_variable}
use Rattle.setl_model_runs.specs.VariableLaws.{variable_itself}
use Rattle.setl_program.specs.Program.{Parameter}
use Rattle.setl_program.specs.ProgramOf.{parameter_of}
use Rattle.setl_model.specs.Calls.{parameter, bindings}
use Rattle.setl_code.specs.declared.code.Body.{Body}
use Rattle.setl_code.specs.declared.code.Code.{Code}
use Rattle.setl_code.specs.Code as plain
use Rattle.setl_code.specs.CodeCore as core
use Rattle.setl_code.specs.CodeCore.{Cells, Held, There, CodeCore, cleared, variables_of, with_held}
use Rattle.setl_code.specs.CodeMeans.{main_slots}
use Rattle.setl_code.specs.MayRun.{Differ, MayRun}
use Rattle.setl_code.specs.Names.{is_among}
use Rattle.setl_code.specs.Plain.{plain_body, plain_code, plain_name}
use Rattle.setl_store_environment.specs.Places.{no_fields}
use Rattle.setl_rep_bases.specs.Bases.{BasesState}
use Rattle.setl_store.specs.declared.cells.Frame.{Frame}
use Rattle.setl_store_slots.specs.Slots.{AreStanding}
use Rattle.setl_store_slots.specs.declared.cells.Held.{Held as Slot}
use Rattle.setl_store_slots.specs.declared.cells.Held.TheVariants as slot
use Rattle.setl_store.specs.Bodies.{with_stores, entered}
use Rattle.setl_store.specs.declared.cells.Kept.{Kept}
use Rattle.setl_store_operands.specs.Operands.{operand_of}
use Rattle.setl_store.specs.Flat.{Here, held_of, cells, names_of, helds, results, activation, callers, core_of, copies_of, bases_of, stands, own_count_of, IsShaped, IsSound, AllSound}
use Rattle.setl_store.specs.Gained.{no_members}
use Rattle.setl_store.specs.Returning.{held_by, parameter_count_of, name_count_of}
use Rattle.setl_store.specs.Standing.{Standing, no_world, started, variables_by}
use Rattle.setl_store.proofs.Bodies.{body_at, names_same, names_differ}
use Rattle.setl_store.proofs.OperandLists.{Changed, changed}
use Rattle.setl_store.proofs.Slots.{or_false, cells_agree, Innermost, innermost, innermost_of, sizes}
use Rattle.setl_store.proofs.StandingSlots.{first_shown, first_standing, all_cleared_shown, all_cleared_standing}
use Rattle.setl_store.proofs.Steps.{counted}

-- ---- stores in own variables

abbrev stored : List Store → Cells → Cells
stored [] ss = ss
stored (x ∷ xs) ss = stored xs (with_held ss x.0 (There x.1))

abbrev parameters : ℕ → List Parameter → List Variable
parameters n ps = map (parameter n) ps

abbrev with_own_cells : CodeCore → Cells → CodeCore
with_own_cells k ss = record k { now = record k.now { own = ss } }

bound : (n : ℕ) (ps : List Parameter) (vs : List (Option Datum)) (k : CodeCore) → with_stores (bindings n ps vs) k ≡ with_own_cells k (stored (bindings n ps vs) k.now.own)
bound n [] vs k = refl
bound n (p ∷ ps) [] k = bound n ps [] (with_own_cells k (with_held k.now.own (parameter n p) (There None)))
bound n (p ∷ ps) (v ∷ vs) k = bound n ps vs (with_own_cells k (with_held k.now.own (parameter n p) (There v)))

pub among_left : (xs ys : List Variable) (x : Variable) → is_among (xs ++ ys) x ≡ false → is_among xs x ≡ false
among_left [] ys x h = refl
among_left (y ∷ xs) ys x h =
    let parts = or_false (is_variable x y) (is_among (xs ++ ys) x) h in
    ap (λ b. b || is_among xs x) parts.0 ∙ among_left xs ys x parts.1

-- stores of other variables leave the first one
passed : (n : ℕ) (ps : List Parameter) (vs : List (Option Datum)) (x : Variable) (h : Held) (ss : Cells) → is_among (parameters n ps) x ≡ false →
    stored (bindings n ps vs) ((x, h) ∷ ss) ≡ (x, h) ∷ stored (bindings n ps vs) ss
passed n [] vs x h ss a = refl
passed n (p ∷ ps) [] x h ss a =
    let parts = or_false (is_variable x (parameter n p)) (is_among (parameters n ps) x) a in
    ap (λ b. stored (bindings n ps []) (cond b ((parameter n p, There None) ∷ ss) ((x, h) ∷ with_held ss (parameter n p) (There None)))) parts.0
    ∙ passed n ps [] x h (with_held ss (parameter n p) (There None)) parts.1
passed n (p ∷ ps) (v ∷ vs) x h ss a =
    let parts = or_false (is_variable x (parameter n p)) (is_among (parameters n ps) x) a in
    ap (λ b. stored (bindings n ps vs) (cond b ((parameter n p, There v) ∷ ss) ((x, h) ∷ with_held ss (parameter n p) (There v)))) parts.0
    ∙ passed n ps vs x h (with_held ss (parameter n p) (There v)) parts.1

pub all_cleared : (xs : List Variable) (n : ℕ) → n ≡ length xs → cells xs (replicate n (There None)) ≡ cleared xs
all_cleared [] n e = refl
all_cleared (x ∷ xs) zero e = absurd (omega (arith, e))
all_cleared (x ∷ xs) (suc n) e = ap (λ l. (x, There None) ∷ l) (all_cleared xs n (omega (arith, e)))

-- the parameters of a body, then its names
filled : (n : ℕ) (ps : List Parameter) (names : List Variable) (vs : List (Option Datum)) (m : ℕ) → Differ (parameters n ps ++ names) → length vs ≡ length ps → m ≡ length names →
    stored (bindings n ps vs) (cleared (parameters n ps ++ names)) ≡ cells (parameters n ps ++ names) (map There vs ++ replicate m (There None))
filled n [] names [] m d same e = sym (all_cleared names m e)
filled n [] names (v ∷ vs) m d same e = absurd (omega (arith, same))
filled n (p ∷ ps) names [] m d same e = absurd (omega (arith, same))
filled n (p ∷ ps) names (v ∷ vs) m d same e =
    let x = parameter n p in
    let rest = cleared (parameters n ps ++ names) in
    ap (λ b. stored (bindings n ps vs) (cond b ((x, There v) ∷ rest) ((x, There None) ∷ with_held rest x (There v)))) (variable_itself x)
    ∙ passed n ps vs x (There v) rest (among_left (parameters n ps) names x d.0)
    ∙ ap (λ l. (x, There v) ∷ l) (filled n ps names vs m d.1 (omega (arith, same)) e)

-- ---- a body that is entered

some_there : {A : Type 0} (xs : List A) (n : ℕ) → n < length xs → slice_get xs n ≡ None → ⊥
some_there [] n h e = omega (arith, h)
some_there (x ∷ xs) zero h e = cc
some_there (x ∷ xs) (suc n) h e = some_there xs n (omega (arith, h)) e

abbrev pub first_held : List (Option Datum) → ℕ → List Held
first_held vs m = map There vs ++ replicate m (There None)

length_first : (vs : List (Option Datum)) (m : ℕ) → length (first_held vs m) ≡ length vs + m
length_first vs m = length-append (map There vs) (replicate m (There None)) ∙ (λ i. length-map vs There i + length-replicate m (There None) i)

abbrev waiting : CodeCore → core.Activation
waiting k = record k.now { at = suc k.now.at }

opened : (vars : List Variable) (n : ℕ) (b : Option Body) (vs : List (Option Datum)) (m : ℕ) (k : CodeCore) → (b ≡ None → ⊥) → IfSome b (λ x. length vs ≡ length x.parameters) → m ≡ name_count_of b →
    Differ (variables_by n (option_map (plain_body vars n) b)) →
    record k { now = record { body = n; at = 0; own = cells (variables_by n (option_map (plain_body vars n) b)) (first_held vs m); operands = [] }; callers = waiting k ∷ k.callers }
    ≡ entered n (option_map (plain_body vars n) b) vs k
opened vars n None vs m k there each names d = absurd (there refl)
opened vars n (Some b) vs m k there each names d =
    let ps = map parameter_of b.parameters in
    let all = map (plain_name n) b.names in
    let to = record k { now = record { body = n; at = 0; own = cleared (parameters n ps ++ all); operands = [] }; callers = waiting k ∷ k.callers } in
    ap (λ ss. with_own_cells to ss) (sym (filled n ps all vs m d (each ∙ sym (length-map b.parameters parameter_of)) (names ∙ sym (length-map b.names (plain_name n)))))
    ∙ sym (bound n ps vs to)

abbrev pub core_over : plain.Code → BasesState → ℕ → List Frame → List Held → List core.Operand → List (Here × Kept) → CodeCore
core_over c bs at fs hs os kept = record {
  globals = cells c.vars hs;
  now = activation c at fs hs os;
  callers = callers c fs hs os;
  kept = copies_of c bs kept;
  world = no_world;
}

-- one more activation over the others
over_others : (c : plain.Code) (bs : BasesState) (at : ℕ) (f g : Frame) (fs : List Frame) (hs ys : List Held) (os : List core.Operand) (kept : List (Here × Kept)) →
    f.slots ≡ length hs → f.operands ≡ length os → f.from ≡ at + 1 → length c.vars ≤ length hs →
    core_over c bs 0 (f ∷ g ∷ fs) (hs ++ ys) os kept
    ≡ (let k = core_over c bs at (g ∷ fs) hs os kept in record k { now = record { body = f.body; at = 0; own = cells (names_of c f.body) ys; operands = [] }; callers = waiting k ∷ k.callers })
over_others c bs at f g fs hs ys os kept slots operands from below =
    let globals = cells_agree c.vars (hs ++ ys) hs (length hs) below (take-append-le (length hs) hs ys (omega arith)) in
    let own = ap (cells (names_of c f.body)) (drop_at hs ys f.slots (sym slots)) in
    let none = ap reverse (drop_all f.operands os (omega (arith, operands))) in
    let under = take_at hs ys f.slots (sym slots) in
    let same = take_all f.operands os (omega (arith, operands)) in
    let up : f.from ≡ suc at = omega (arith, from) in
    λ i. record {
      globals = globals i;
      now = record { body = f.body; at = 0; own = own i; operands = none i };
      callers = activation c (up i) (g ∷ fs) (under i) (same i) ∷ callers c (g ∷ fs) (under i) (same i);
      kept = copies_of c bs kept;
      world = no_world;
    }

-- what is known of a call
pub record Calls (code : Code) (at : ℕ) (e : Here) (f : Frame) (vs : List (Option Datum)) (m : ℕ) : Type 0 where
  pub there : f.body < length code.bodies
  pub each : IfSome (slice_get code.bodies f.body) (λ b. length vs ≡ length b.parameters)
  pub names : m ≡ name_count_of (slice_get code.bodies f.body)
  pub slots : f.slots ≡ length e.slots
  pub operands : f.operands ≡ length e.operands
  pub from : f.from ≡ at + 1

abbrev with_activation : Here → List Slot → Frame → Here
with_activation e ss f = record e { slots = ss; activations = e.activations ++ f ∷ [] }

core_entered : (code : Code) (bs : BasesState) (at : ℕ) (e : Here) (kept : List (Here × Kept)) (f : Frame) (vs : List (Option Datum)) (m : ℕ) (ss : List Slot) → MayRun code → Innermost bs (plain_code code) e → Calls code at e f vs m →
    map (held_of bs) ss ≡ helds bs e ++ first_held vs m →
    core_of (plain_code code) bs 0 (with_activation e ss f) kept ≡ entered f.body (slice_get (plain_code code).bodies f.body) vs (core_of (plain_code code) bs at e kept)
core_entered code bs at e kept f vs m ss may (innermost g fs is h) calls filled_by =
    let c = plain_code code in
    let n = f.body in
    let hs = helds bs e in
    let os = results bs e in
    let z = sizes c g fs hs (length os) h in
    let body = body_at c.vars 0 code.bodies n n (omega arith) in
    let acts : reverse (e.activations ++ f ∷ []) ≡ f ∷ g ∷ fs = reverse-append e.activations (f ∷ []) ∙ ap (λ l. f ∷ l) is in
    let slots = calls.slots ∙ sym (length-map e.slots (held_of bs)) in
    let operands = calls.operands ∙ sym (length-map e.operands (operand_of bs e.members)) in
    ap (λ l. core_over c bs 0 l (map (held_of bs) ss) os kept) acts
    ∙ ap (λ l. core_over c bs 0 (f ∷ g ∷ fs) l os kept) filled_by
    ∙ over_others c bs at f g fs hs (first_held vs m) os kept slots operands calls.from (omega (arith, z.below, z.whole))
    ∙ ap (λ l. (let k = core_over c bs at l hs os kept in record k { now = record { body = n; at = 0; own = cells (names_of c n) (first_held vs m); operands = [] }; callers = waiting k ∷ k.callers })) (sym is)
    ∙ subst (λ b. record (core_of c bs at e kept) { now = record { body = n; at = 0; own = cells (variables_by n b) (first_held vs m); operands = [] }; callers = waiting (core_of c bs at e kept) ∷ (core_of c bs at e kept).callers } ≡ entered n b vs (core_of c bs at e kept)) (sym body)
    (opened c.vars n (slice_get code.bodies n) vs m (core_of c bs at e kept) (some_there code.bodies n calls.there) calls.each calls.names (subst (λ b. Differ (variables_by n b)) body (names_differ code n may)))

counted_there : (n : ℕ) (b : Option Body) (vs : List (Option Datum)) (m : ℕ) → (b ≡ None → ⊥) → IfSome b (λ x. length vs ≡ length x.parameters) → m ≡ name_count_of b → length vs + m ≡ own_count_of b
counted_there n None vs m there each names = absurd (there refl)
counted_there n (Some b) vs m there each names = omega (arith, each, names)

shaped_entered : (code : Code) (bs : BasesState) (at : ℕ) (e : Here) (f : Frame) (vs : List (Option Datum)) (m : ℕ) (ss : List Slot) → Innermost bs (plain_code code) e → Calls code at e f vs m →
    map (held_of bs) ss ≡ helds bs e ++ first_held vs m → IsShaped (plain_code code) (reverse (e.activations ++ f ∷ [])) (length ss) (length e.operands)
shaped_entered code bs at e f vs m ss (innermost g fs is h) calls filled_by =
    let c = plain_code code in
    let n = f.body in
    let acts : reverse (e.activations ++ f ∷ []) ≡ f ∷ g ∷ fs = reverse-append e.activations (f ∷ []) ∙ ap (λ l. f ∷ l) is in
    let own : length (names_of c n) ≡ length vs + m = ap length (names_same code n) ∙ counted n (slice_get code.bodies n) ∙ sym (counted_there n (slice_get code.bodies n) vs m (some_there code.bodies n calls.there) calls.each calls.names) in
    let all : length ss ≡ length (helds bs e) + length (first_held vs m) = sym (length-map ss (held_of bs)) ∙ ap length filled_by ∙ length-append (helds bs e) (first_held vs m) in
    let below : IsShaped c (g ∷ fs) f.slots f.operands =
    subst (λ k. IsShaped c (g ∷ fs) k f.operands) (length-map e.slots (held_of bs) ∙ sym calls.slots)
    (subst (λ k. IsShaped c (g ∷ fs) (length (helds bs e)) k) (length-map e.operands (operand_of bs e.members) ∙ sym calls.operands) h) in
    subst (λ l. IsShaped c l (length ss) (length e.operands)) (sym acts)
    (omega (arith, own, all, length_first vs m, length-map e.slots (held_of bs), calls.slots), omega (arith, calls.operands), below)

pub enters : (code : Code) (bs : BasesState) (keeps : ℕ) (at : ℕ) (e e' : Here) (kept kept' : List (Here × Kept)) (s : Standing) (f : Frame) (ws : List (Option Value)) (m : ℕ) →
    MayRun code × IsSound (plain_code code) bs e × AllSound (plain_code code) bs keeps e.slots kept → stands code bs at e kept ≡ s → Calls code at e f (map part ws) m →
    e'.slots ≡ e.slots ++ (map held_by ws ++ replicate m slot.Om) → e' ≡ record e { slots = e'.slots; activations = e.activations ++ f ∷ [] } → kept' ≡ kept →
    Changed code bs keeps 0 e' kept' s (entered f.body (slice_get (plain_code s.code).bodies f.body) (map part ws) s.core)
enters code bs keeps at e e' kept kept' s f ws m h is calls slots_by now same =
    let c = plain_code code in
    let vs = map part ws in
    let filled_by : helds bs e' ≡ helds bs e ++ first_held vs m = ap (map (held_of bs)) slots_by ∙ map-append (held_of bs) e.slots (map held_by ws ++ replicate m slot.Om) ∙ ap (λ l. helds bs e ++ l) (first_shown bs ws m) in
    let stand : AreStanding bs e'.slots = subst (AreStanding bs) (sym slots_by) (first_standing bs e.slots ws m h.2.standing) in
    let i = innermost_of bs c e h.1 in
    let to = core_entered code bs at e kept f vs m e'.slots h.0 i calls filled_by in
    subst (λ x. Changed code bs keeps 0 x kept' s (entered f.body (slice_get (plain_code s.code).bodies f.body) vs s.core)) (sym now)
    (subst (λ (t : Standing). Changed code bs keeps 0 (with_activation e e'.slots f) kept' t (entered f.body (slice_get (plain_code t.code).bodies f.body) vs t.core)) is
    (changed code bs keeps at 0 e (with_activation e e'.slots f) kept kept' (stands code bs at e kept) (λ k. entered f.body (slice_get c.bodies f.body) vs k) h refl same to
    (record {
      some = omega (arith, length_push e.activations f);
      shaped = shaped_entered code bs at e f vs m e'.slots i calls filled_by;
      members = h.1.members;
      got = h.1.got;
      operands = h.1.operands;
    })
    stand))

-- ---- the start

front_cleared : (xs : List Variable) (n : ℕ) (hs : List Held) → n ≡ length xs → cells xs (replicate n (There None) ++ hs) ≡ cleared xs
front_cleared [] n hs e = refl
front_cleared (x ∷ xs) zero hs e = absurd (omega (arith, e))
front_cleared (x ∷ xs) (suc n) hs e = ap (λ l. (x, There None) ∷ l) (front_cleared xs n hs (omega (arith, e)))

both_cleared : (xs : List Variable) (p m : ℕ) → p + m ≡ length xs → cells xs (replicate p (There None) ++ replicate m (There None)) ≡ cleared xs
both_cleared [] p m e = refl
both_cleared (x ∷ xs) zero m e = all_cleared (x ∷ xs) m (omega (arith, e))
both_cleared (x ∷ xs) (suc p) m e = ap (λ l. (x, There None) ∷ l) (both_cleared xs p m (omega (arith, e)))

main_same : (b : Option plain.Body) → main_slots b ≡ cleared (variables_by 0 b)
main_same None = refl
main_same (Some b) = refl

counted_both : (b : Option Body) → parameter_count_of b + name_count_of b ≡ own_count_of b
counted_both None = refl
counted_both (Some b) = refl

pub starts : (code : Code) (bs : BasesState) (e : Here) (v p m count : ℕ) → MayRun code → bases_of bs [] ≡ no_members count → v ≡ length code.vars → p ≡ parameter_count_of (slice_get code.bodies 0) → m ≡ name_count_of (slice_get code.bodies 0) →
    e.slots ≡ (replicate v slot.Om ++ replicate p slot.Om) ++ replicate m slot.Om →
    e ≡ record { slots = e.slots; operands = []; activations = record { body = 0; from = 0; slots = v; operands = 0 } ∷ []; members = []; fields = no_fields } →
    (stands code bs 0 e [] ≡ started count code) × IsSound (plain_code code) bs e × AreStanding bs e.slots
starts code bs e v p m count may empty vars ps ns slots_by now =
    let c = plain_code code in
    let filled_by : helds bs e ≡ (replicate v (There None) ++ replicate p (There None)) ++ replicate m (There None) = ap (map (held_of bs)) slots_by ∙ all_cleared_shown bs v p m in
    let f : Frame = record { body = 0; from = 0; slots = v; operands = 0 } in
    let e0 : Here = record { slots = e.slots; operands = []; activations = f ∷ []; members = []; fields = no_fields } in
    let own = replicate p (There None) ++ replicate m (There None) in
    let hs : helds bs e ≡ replicate v (There None) ++ own = filled_by ∙ append_assoc (replicate v (There None)) (replicate p (There None)) (replicate m (There None)) in
    let all : p + m ≡ length (names_of c 0) = (λ i. ps i + ns i) ∙ counted_both (slice_get code.bodies 0) ∙ sym (ap length (names_same code 0) ∙ counted 0 (slice_get code.bodies 0)) in
    let front : v ≡ length c.vars = vars ∙ sym (length-map code.vars Global) in
    let behind : drop v (replicate v (There None) ++ own) ≡ own = drop_at (replicate v (There None)) own v (length-replicate v (There None)) in
    let globals = ap (cells c.vars) hs ∙ front_cleared c.vars v own front in
    let mine = ap (λ l. cells (names_of c 0) (drop v l)) hs ∙ ap (cells (names_of c 0)) behind ∙ both_cleared (names_of c 0) p m all ∙ sym (main_same (slice_get c.bodies 0)) in
    let long : length e.slots ≡ v + (p + m) =
    sym (length-map e.slots (held_of bs)) ∙ ap length hs ∙ length-append (replicate v (There None)) own
    ∙ (λ i. length-replicate v (There None) i + (length-append (replicate p (There None)) (replicate m (There None)) ∙ (λ j. length-replicate p (There None) j + length-replicate m (There None) j)) i) in (
      ap (λ x. stands code bs 0 x []) now
          ∙ (λ i. record { code = code; core = record { globals = globals i; now = record { body = 0; at = 0; own = mine i; operands = [] }; callers = []; kept = []; world = no_world }; bases = empty i }),
      subst (IsSound c bs) (sym now)
          (record {
            some = omega arith;
            shaped = (refl, front, refl, omega (arith, long, all));
            members = refl;
            got = tt;
            operands = tt;
          }),
      subst (AreStanding bs) (sym slots_by) (all_cleared_standing bs v p m),
    )

abbrev nothing : Here
nothing = record { slots = []; operands = []; activations = []; members = []; fields = no_fields }

-- what is there, step by step
pub first_contents : (e0 e1 e2 e3 : Here) (f : Frame) → e0 ≡ nothing → e1 ≡ record e0 { slots = e1.slots } → e2 ≡ record e1 { slots = e2.slots } → e3 ≡ record e2 { slots = e3.slots; activations = e2.activations ++ f ∷ [] } →
    e3 ≡ record { slots = e3.slots; operands = []; activations = f ∷ []; members = []; fields = no_fields }
first_contents e0 e1 e2 e3 f a b c d =
    d ∙ ap (λ (x : Here). record x { slots = e3.slots; activations = x.activations ++ f ∷ [] }) (c ∙ ap (λ (x : Here). record x { slots = e2.slots }) (b ∙ ap (λ (x : Here). record x { slots = e1.slots }) a))

pub first_slots : (e0 e1 e2 e3 : Here) (v p m : ℕ) (xs : List (Option Value)) → e0 ≡ nothing → e1.slots ≡ e0.slots ++ replicate v slot.Om → e2.slots ≡ e1.slots ++ replicate p slot.Om →
    xs ≡ [] → e3.slots ≡ e2.slots ++ (map held_by xs ++ replicate m slot.Om) → e3.slots ≡ (replicate v slot.Om ++ replicate p slot.Om) ++ replicate m slot.Om
first_slots e0 e1 e2 e3 v p m xs a b c none d =
    d ∙ ap (λ l. e2.slots ++ (map held_by l ++ replicate m slot.Om)) none
    ∙ ap (λ l. l ++ replicate m slot.Om) (c ∙ ap (λ l. l ++ replicate p slot.Om) (b ∙ ap (λ (x : Here). x.slots ++ replicate v slot.Om) a))
