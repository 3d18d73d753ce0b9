-- The places of declarations.
use Rattle.std.proofs.Common.{◌≡◌, ◌∙◌, ◌+◌, ◌<◌, ◌≢◌, ℕ, zero, suc, Bool, true, false, List, [], ◌∷◌, ◌++◌, map, length, get_or, refl, sym, ap, subst, arith, Option, None, Some}
use Rattle.std.specs.Prelude.{slice_get, cond, IfSome}
use Rattle.std.specs.Option.{option_map, option_flatten}
use Rattle.std.proofs.lemmas.List.{length-map}
use Rattle.setl_modes.specs.Modes.{mode_of}
use Rattle.setl_model_runs.specs.Variable.{Variable, Global, Own, Bound, is_variable}
use Rattle.setl_model_runs.specs.VariableLaws.{same_variable}
use Rattle.setl_program.specs.Program.{Parameter}
use Rattle.setl_program.specs.declared.program.Declared.{Declared}
use Rattle.setl_program.specs.code.Plain.{plain_declared, plain_variable}
use Rattle.setl_model.specs.Calls.{parameter}
use Rattle.setl_model.specs.Step.{declared_mode}
use Rattle.setl_code.specs.declared.code.Body as declared
use Rattle.setl_code.specs.declared.code.Code as declared_code
use Rattle.setl_code.specs.declared.code.OwnName.{OwnName}
use Rattle.setl_code.specs.declared.code.OwnName.TheVariants as name
use Rattle.setl_code.specs.declared.code.Slot.{Slot}
use Rattle.setl_code.specs.declared.code.Slot.TheVariants as slot
use Rattle.setl_code.specs.Plain.{variable_at, plain_slot, plain_name, plain_body, plain_bodies, plain_code}
use Rattle.setl_store.specs.Standing.{Standing, variables, variables_by, variables_in}
use Rattle.setl_machine_control.specs.Declaring.{Modes, DeclarationTable, modes_of, declared_at, place_from, place_of, IsOfMain, AreOfMain, IsBare, Serves}
use Rattle.setl_machine_variables.specs.Tables.{name_place, names_by, KnowsSlots}
use Rattle.setl_machine_control.specs.Laws.{apart}
use Rattle.setl_machine_control.specs.Laws.{bodies_at}

-- ---- what isn't declared

pub bound_nowhere : (modes : Modes) → AreOfMain modes → (n former : ℕ) (x : List ℕ) → place_from n modes (Bound former x) ≡ None
bound_nowhere [] h n former x = refl
bound_nowhere ((Global a, m) ∷ ms) h n former x = bound_nowhere ms h.1 (suc n) former x
bound_nowhere ((Own body a, m) ∷ ms) h n former x = bound_nowhere ms h.1 (suc n) former x
bound_nowhere ((Bound former' a, m) ∷ ms) h n former x = absurd h.0

pub other_nowhere : (modes : Modes) → AreOfMain modes → (n body : ℕ) (x : List ℕ) → place_from n modes (Own (suc body) x) ≡ None
other_nowhere [] h n body x = refl
other_nowhere ((Global a, m) ∷ ms) h n body x = other_nowhere ms h.1 (suc n) body x
other_nowhere ((Own zero a, m) ∷ ms) h n body x =
    let ne : 0 ≢ suc body = omega arith in
    ap (λ t. cond t (Some n) (place_from (suc n) ms (Own (suc body) x))) (apart 0 (suc body) a x ne) ∙ other_nowhere ms h.1 (suc n) body x
other_nowhere ((Own (suc k) a, m) ∷ ms) h n body x = absurd h.0
other_nowhere ((Bound former a, m) ∷ ms) h n body x = absurd h.0

-- ---- by slots

-- of the variables that all bodies see
pub seen_place : (modes : Modes) → AreOfMain modes → (xs : List (List ℕ)) (k : ℕ) → option_flatten (slice_get (map (λ x. place_of modes (Global x)) xs) k) ≡ place_of modes (variable_at (map Global xs) k)
seen_place modes h [] zero = sym (bound_nowhere modes h 0 0 [])
seen_place modes h [] (suc k) = sym (bound_nowhere modes h 0 0 [])
seen_place modes h (x ∷ xs) zero = refl
seen_place modes h (x ∷ xs) (suc k) = seen_place modes h xs k

main_name : (modes : Modes) → AreOfMain modes → (n : OwnName) → name_place (λ x. place_of modes (Own 0 x)) n ≡ place_of modes (plain_name 0 n)
main_name modes h (name.Body x) = refl
main_name modes h (name.Former former x) = sym (bound_nowhere modes h 0 former x)

main_place : (modes : Modes) → AreOfMain modes → (ns : List OwnName) (k : ℕ) → option_flatten (slice_get (map (name_place (λ x. place_of modes (Own 0 x))) ns) k) ≡ place_of modes (variable_at (map (plain_name 0) ns) k)
main_place modes h [] zero = sym (bound_nowhere modes h 0 0 [])
main_place modes h [] (suc k) = sym (bound_nowhere modes h 0 0 [])
main_place modes h (n ∷ ns) zero = main_name modes h n
main_place modes h (n ∷ ns) (suc k) = main_place modes h ns k

-- of the main body
main_slot : (modes : Modes) → AreOfMain modes → (vars : List Variable) (bs : List declared.Body) (k : ℕ) → IfSome (slice_get (plain_bodies vars 0 bs) 0) (λ b. b.parameters ≡ []) →
    option_flatten (slice_get (map (name_place (λ x. place_of modes (Own 0 x))) (names_by (slice_get bs 0))) k) ≡ place_of modes (variable_at (variables_by 0 (slice_get (plain_bodies vars 0 bs) 0)) k)
main_slot modes h vars [] k bare = main_place modes h [] k
main_slot modes h vars (b ∷ bs) k bare =
    main_place modes h b.names k ∙ ap (λ (ps : List Parameter). place_of modes (variable_at (map (parameter 0) ps ++ map (plain_name 0) b.names) k)) (sym bare)

-- of another body
other_names : (modes : Modes) → AreOfMain modes → (n : ℕ) (ns : List OwnName) (k : ℕ) → place_of modes (variable_at (map (plain_name (suc n)) ns) k) ≡ None
other_names modes h n [] k = bound_nowhere modes h 0 0 []
other_names modes h n (name.Body x ∷ ns) zero = other_nowhere modes h 0 n x
other_names modes h n (name.Former former x ∷ ns) zero = bound_nowhere modes h 0 former x
other_names modes h n (x ∷ ns) (suc k) = other_names modes h n ns k

other_variables : (modes : Modes) → AreOfMain modes → (n : ℕ) (ps : List Parameter) (ns : List OwnName) (k : ℕ) → place_of modes (variable_at (map (parameter (suc n)) ps ++ map (plain_name (suc n)) ns) k) ≡ None
other_variables modes h n [] ns k = other_names modes h n ns k
other_variables modes h n (p ∷ ps) ns zero = other_nowhere modes h 0 n p.name
other_variables modes h n (p ∷ ps) ns (suc k) = other_variables modes h n ps ns k

other_by : (modes : Modes) → AreOfMain modes → (vars : List Variable) (n k : ℕ) (b : Option declared.Body) → place_of modes (variable_at (variables_by (suc n) (option_map (plain_body vars (suc n)) b)) k) ≡ None
other_by modes h vars n k None = bound_nowhere modes h 0 0 []
other_by modes h vars n k (Some b) = other_variables modes h n (plain_body vars (suc n) b).parameters b.names k

other_slot : (modes : Modes) → AreOfMain modes → (vars : List Variable) (bs : List declared.Body) (n k : ℕ) → place_of modes (variable_at (variables_by (suc n) (slice_get (plain_bodies vars 0 bs) (suc n))) k) ≡ None
other_slot modes h vars bs n k =
    let e : 0 + suc n ≡ suc n = omega arith in
    ap (λ b. place_of modes (variable_at (variables_by (suc n) b) k)) (bodies_at vars 0 bs (suc n) ∙ ap (λ j. option_map (plain_body vars j) (slice_get bs (suc n))) e) ∙ other_by modes h vars n k (slice_get bs (suc n))

-- the place of a slot's variable, of the body of this number
abbrev pub slot_place : declared_code.Code → Modes → (body : ℕ) → Slot → Option ℕ
slot_place c modes n x = place_of modes (plain_slot (variables_in (plain_code c) n) x)

pub global_place : (c : declared_code.Code) (modes : Modes) (globals own : List (Option ℕ)) (n k : ℕ) → AreOfMain modes → KnowsSlots c modes globals own → option_flatten (slice_get globals k) ≡ slot_place c modes n (slot.Global k)
global_place c modes globals own n k h s = ap (λ ps. option_flatten (slice_get ps k)) s.seen ∙ seen_place modes h c.vars k

pub own_place : (c : declared_code.Code) (modes : Modes) (globals own : List (Option ℕ)) (k : ℕ) → AreOfMain modes → IsBare (plain_code c) → KnowsSlots c modes globals own → option_flatten (slice_get own k) ≡ slot_place c modes 0 (slot.Own k)
own_place c modes globals own k h bare s = ap (λ ps. option_flatten (slice_get ps k)) s.main ∙ main_slot modes h (map Global c.vars) c.bodies k bare

pub no_place : (c : declared_code.Code) (modes : Modes) (n k : ℕ) → AreOfMain modes → n ≢ 0 → None ≡ slot_place c modes n (slot.Own k)
no_place c modes zero k h ne = absurd (ne refl)
no_place c modes (suc n) k h ne = sym (other_slot modes h (map Global c.vars) c.bodies n k)

-- ---- the declaration at a place

pub none_there : (n : ℕ) (modes : Modes) (x : Variable) → place_from n modes x ≡ None → declared_mode modes x ≡ None
none_there n [] x h = refl
none_there n (m ∷ ms) x h = go (is_variable m.0 x) h (λ h. none_there (suc n) ms x h)
  where
    go : (b : Bool) → cond b (Some n) (place_from (suc n) ms x) ≡ None → (place_from (suc n) ms x ≡ None → declared_mode ms x ≡ None) → cond b (Some m.1) (declared_mode ms x) ≡ None
    go true h later = absurd (cc)
    go false h later = later h

-- the declaration of a variable, this many behind the first of these
pub record IsThere (n : ℕ) (ds : List Declared) (x : Variable) (k : ℕ) : Type 0 where
  pub behind : ℕ
  pub place : k ≡ n + behind
  pub within : behind < length ds
  pub mode : (d : Declared) → d ≡ get_or ds behind d → declared_mode (map plain_declared ds) x ≡ Some (mode_of d.mode)
  pub variable : declared_at (map plain_declared ds) behind ≡ x

pub some_there : (n : ℕ) (ds : List Declared) (x : Variable) (k : ℕ) → place_from n (map plain_declared ds) x ≡ Some k → IsThere n ds x k
some_there n [] x k h = absurd (cc)
some_there n (d ∷ ds) x k h = go (is_variable (plain_variable d.variable) x) refl h (λ h. some_there (suc n) ds x k h)
  where
    go : (b : Bool) → is_variable (plain_variable d.variable) x ≡ b → cond b (Some n) (place_from (suc n) (map plain_declared ds) x) ≡ Some k → (place_from (suc n) (map plain_declared ds) x ≡ Some k → IsThere (suc n) ds x k) → IsThere n (d ∷ ds) x k
    go true e h later =
        let same : n ≡ k = cc in record {
          behind = 0;
          place = omega (arith, same);
          within = omega arith;
          mode = λ d' i. ap (λ b. cond b (Some (mode_of d.mode)) (declared_mode (map plain_declared ds) x)) e ∙ ap (λ (d : Declared). Some (mode_of d.mode)) (sym i);
          variable = same_variable (plain_variable d.variable) x e;
        }
    go false e h later =
        let t = later h in record {
          behind = suc t.behind;
          place = omega (arith, t.place);
          within = omega (arith, t.within);
          mode = λ d' i. ap (λ b. cond b (Some (mode_of d.mode)) (declared_mode (map plain_declared ds) x)) e ∙ t.mode d' i;
          variable = t.variable;
        }

-- each declared variable is one that may be
of_main : (modes : Modes) → AreOfMain modes → (k : ℕ) (x : Variable) → k < length modes → declared_at modes k ≡ x → IsOfMain x
of_main [] h k x l e = absurd (omega (arith, l))
of_main (m ∷ ms) h zero x l e = subst IsOfMain e h.0
of_main (m ∷ ms) h (suc k) x l e = of_main ms h.1 k x (omega (arith, l)) e

pub place_within : (ds : List Declared) (x : Variable) (k : ℕ) → place_of (map plain_declared ds) x ≡ Some k → k < length ds
place_within ds x k h = let t = some_there 0 ds x k h in omega (arith, t.place, t.within)

-- what the declaration at a place is
abbrev pub Declares : Modes → Variable → ℕ → Declared → Type 0
Declares modes x k d = (declared_mode modes x ≡ Some (mode_of d.mode)) × (declared_at modes k ≡ x) × IsOfMain x

pub declares : (ds : List Declared) (x : Variable) (k : ℕ) (d : Declared) → AreOfMain (map plain_declared ds) → place_of (map plain_declared ds) x ≡ Some k → d ≡ get_or ds k d → Declares (map plain_declared ds) x k d
declares ds x k d main h i =
    let t = some_there 0 ds x k h in
    let same : k ≡ t.behind = omega (arith, t.place) in
    let at : declared_at (map plain_declared ds) k ≡ x = ap (declared_at (map plain_declared ds)) same ∙ t.variable in
    (t.mode d (i ∙ ap (λ j. get_or ds j d) same), at, of_main (map plain_declared ds) main k x (omega (arith, same, t.within, length-map ds plain_declared)) at)

-- ---- of a table

-- what contracts see of it
abbrev table : declared_code.Code → List Declared → DeclarationTable
table c ds = record { code = c; declared = ds }

at_slot : (t : DeclarationTable) (c : declared_code.Code) (ds : List Declared) (s : Standing) (n : ℕ) (x y : Slot) (p : Option ℕ) → table c ds ≡ t → t.code ≡ s.code → variables s.core ≡ variables_in (plain_code s.code) n → y ≡ x → p ≡ slot_place c (map plain_declared ds) n x → p ≡ place_of (modes_of t) (plain_slot (variables s.core) y)
at_slot t c ds s n x y p view same vars is e =
    let code : c ≡ s.code = ap (λ (t : DeclarationTable). t.code) view ∙ same in
    e
    ∙ (λ i. place_of (modes_of (view i)) (plain_slot (variables_in (plain_code (code i)) n) (sym is i)))
    ∙ ap (λ vs. place_of (modes_of t) (plain_slot vs y)) (sym vars)

main_of : (t : DeclarationTable) (c : declared_code.Code) (ds : List Declared) → table c ds ≡ t → AreOfMain (modes_of t) → AreOfMain (map plain_declared ds)
main_of t c ds view h = subst (λ (t : DeclarationTable). AreOfMain (modes_of t)) (sym view) h

bare_of : (t : DeclarationTable) (c d : declared_code.Code) (ds : List Declared) → table c ds ≡ t → t.code ≡ d → IsBare (plain_code d) → IsBare (plain_code c)
bare_of t c d ds view same h = subst (λ c. IsBare (plain_code c)) (sym (ap (λ (t : DeclarationTable). t.code) view ∙ same)) h

pub global_at : (t : DeclarationTable) (c : declared_code.Code) (ds : List Declared) (globals own : List (Option ℕ)) (s : Standing) (n k : ℕ) (y : Slot) (p : Option ℕ) → table c ds ≡ t → Serves t s → KnowsSlots c (map plain_declared ds) globals own →
    variables s.core ≡ variables_in (plain_code s.code) n → y ≡ slot.Global k → p ≡ option_flatten (slice_get globals k) → p ≡ place_of (modes_of t) (plain_slot (variables s.core) y)
global_at t c ds globals own s n k y p view serves knows vars is e =
    at_slot t c ds s n (slot.Global k) y p view serves.same vars is (e ∙ global_place c (map plain_declared ds) globals own n k (main_of t c ds view serves.main) knows)

pub own_at : (t : DeclarationTable) (c : declared_code.Code) (ds : List Declared) (globals own : List (Option ℕ)) (s : Standing) (n k : ℕ) (y : Slot) (p : Option ℕ) → table c ds ≡ t → Serves t s → KnowsSlots c (map plain_declared ds) globals own →
    variables s.core ≡ variables_in (plain_code s.code) n → n ≡ 0 → y ≡ slot.Own k → p ≡ option_flatten (slice_get own k) → p ≡ place_of (modes_of t) (plain_slot (variables s.core) y)
own_at t c ds globals own s n k y p view serves knows vars none is e =
    at_slot t c ds s 0 (slot.Own k) y p view serves.same (vars ∙ ap (variables_in (plain_code s.code)) none) is
    (e ∙ own_place c (map plain_declared ds) globals own k (main_of t c ds view serves.main) (bare_of t c s.code ds view serves.same serves.bare) knows)

pub other_at : (t : DeclarationTable) (c : declared_code.Code) (ds : List Declared) (s : Standing) (n k : ℕ) (y : Slot) → table c ds ≡ t → Serves t s →
    variables s.core ≡ variables_in (plain_code s.code) n → n ≢ 0 → y ≡ slot.Own k → None ≡ place_of (modes_of t) (plain_slot (variables s.core) y)
other_at t c ds s n k y view serves vars some is =
    at_slot t c ds s n (slot.Own k) y None view serves.same vars is (no_place c (map plain_declared ds) n k (main_of t c ds view serves.main) some)

pub within_table : (t : DeclarationTable) (c : declared_code.Code) (ds : List Declared) (x : Variable) (k : ℕ) → table c ds ≡ t → Some k ≡ place_of (modes_of t) x → k < length ds
within_table t c ds x k view h = place_within ds x k (ap (λ (t : DeclarationTable). place_of (modes_of t) x) view ∙ sym h)

pub declared_in : (t : DeclarationTable) (c : declared_code.Code) (ds : List Declared) (x : Variable) (k : ℕ) (d : Declared) → table c ds ≡ t → AreOfMain (modes_of t) → Some k ≡ place_of (modes_of t) x → d ≡ get_or ds k d → Declares (modes_of t) x k d
declared_in t c ds x k d view main h i =
    subst (λ (t : DeclarationTable). Declares (modes_of t) x k d) view
    (declares ds x k d (main_of t c ds view main) (ap (λ (t : DeclarationTable). place_of (modes_of t) x) view ∙ sym h) i)

pub not_in : (t : DeclarationTable) (x : Variable) → None ≡ place_of (modes_of t) x → declared_mode (modes_of t) x ≡ None
not_in t x h = none_there 0 (modes_of t) x (sym h)
