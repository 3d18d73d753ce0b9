-- That the declarations of a program are those of variables of its main program, and that its main body has no parameters.
use Rattle.std.proofs.Common.{◌≡◌, ◌∙◌, ◌≤◌, inl, inr, ℕ, zero, suc, nat_eq, bytes_eq, Bool, true, false, ◌&&◌, ◌||◌, List, [], ◌∷◌, map, Option, None, Some, IfSome, if◌then◌else◌, refl, ap, subst, sym, arith}
use Rattle.std.proofs.lemmas.Bool.Decides.{eqb_tells}
use Rattle.std.specs.Prelude.{slice_get}
use Rattle.setl_model_runs.specs.Variable.{Variable, Global, Own, Bound, is_variable}
use Rattle.setl_modes.specs.Modes.{Mode}
use Rattle.setl_modes.specs.Declarations.{variables_of}
use Rattle.setl_names.specs.Names.{Name, in_order, has}
use Rattle.setl_names.specs.Variables.{OfProgram, OfBody, var_names}
use Rattle.setl_program.specs.Program.{Program}
use Rattle.setl_program.specs.ProgramOf.{main_scope, declaration_of}
use Rattle.setl_program.specs.Scope.{variable_of, variable_by}
use Rattle.setl_program.specs.declared.program.Declared.{Declared}
use Rattle.setl_program.specs.code.Plain.{plain_declared}
use Rattle.setl_tree.specs.declared.tree.Tree.{Tree}
use Rattle.setl_code.specs.declared.code.Code.{Code as RustCode}
use Rattle.setl_code.specs.Code.{Body, Code}
use Rattle.setl_code.specs.CodeOf.{code_of}
use Rattle.setl_code.specs.Names.{is_among}
use Rattle.setl_code.specs.Plain.{plain_code}
use Rattle.setl_code_marked.specs.Marked.{declared_in, MarksBodies}
use Rattle.setl_live.specs.Slots.{OnlyMain}
use Rattle.setl_code_declared.specs.Fitting.{Fitting}
use Rattle.setl_code_layout.specs.Layout.{NamesWithin}
use Rattle.setl_code_declared.specs.Laws.{StartsFit}
use Rattle.setl_store.specs.Standing.{Standing, no_world, started}
use Rattle.setl_machine_control.specs.Declaring.{Modes, DeclarationTable, modes_of, IsOfMain, AreOfMain, IsBare, Serves}
use Rattle.setl_top.specs.Listings.{IsMarked}
use Rattle.setl_top.specs.Runnable.{Runnable, declared_by}
use Rattle.setl_top.specs.code.Runs.{IsMeant, counted}
use Rattle.setl_top_words.specs.Words.{Options}

-- the variable of a name in the main program's scope is one of the main program
of_main : (t : Tree) (x : Name) → IsOfMain (variable_of (main_scope t) x)
of_main t x = go (has (in_order (var_names t.vars)) x)
  where
    go : (b : Bool) → IsOfMain (variable_by (main_scope t) x (if b then OfProgram else OfBody))
    go true = tt
    go false = tt

are_of_main : (t : Tree) (ds : List (Name × Mode)) → AreOfMain (map (declaration_of (main_scope t)) ds)
are_of_main t [] = tt
are_of_main t (d ∷ ds) = (of_main t d.0, are_of_main t ds)

pub modes_of_main : (p : Program) → IsMeant p → AreOfMain p.modes
modes_of_main p m = subst AreOfMain (sym (ap (λ (q : Program). q.modes) m.meaning)) (are_of_main m.tree (variables_of m.tree.modes))

-- those that count are so
pub counted_of_main : (asked : Options) (r : Runnable) → AreOfMain (declared_by r) → AreOfMain (counted asked r)
counted_of_main asked r main = go asked.based
  where
    go : (b : Bool) → AreOfMain (if b then declared_by r else [])
    go true = main
    go false = tt

-- a marked body has the parameters of the body
marked_is_bare : (declared : List Variable) (b d : Option Body) → MarksBodies declared 0 b d → IfSome b (λ x. x.parameters ≡ []) → IfSome d (λ x. x.parameters ≡ [])
marked_is_bare declared None None h bare = bare
marked_is_bare declared None (Some d) h bare = absurd h
marked_is_bare declared (Some b) None h bare = absurd h
marked_is_bare declared (Some b) (Some d) h bare = ap (λ (x : Body). x.parameters) h.rest ∙ bare

pub code_is_bare : (p : Program) (c : Code) → IsMarked p c → IsBare c
code_is_bare p c marked = marked_is_bare (declared_in p.modes) (slice_get (code_of p).bodies 0) (slice_get c.bodies 0) (marked.bodies 0) refl

not_zero : (n : ℕ) → nat_eq (suc n) 0 ≡ false
not_zero n = elim (eqb_tells (suc n) 0) [
  | inl x ↦ absurd (omega (arith, x.1))
  | inr x ↦ x.0
]

-- a variable of a procedure or a former isn't one of the main program
not_procedures : (n : ℕ) (name : List ℕ) (y : Variable) → IsOfMain y → is_variable (Own (suc n) name) y ≡ false
not_procedures n name (Global x) h = refl
not_procedures n name (Own zero x) h = ap (λ b. b && bytes_eq name x) (not_zero n)
not_procedures n name (Own (suc m) x) h = absurd h
not_procedures n name (Bound former x) h = absurd h

not_formers : (k : ℕ) (name : List ℕ) (y : Variable) → IsOfMain y → is_variable (Bound k name) y ≡ false
not_formers k name (Global x) h = refl
not_formers k name (Own zero x) h = refl
not_formers k name (Own (suc m) x) h = absurd h
not_formers k name (Bound former x) h = absurd h

not_declared : (x : Variable) → ((y : Variable) → IsOfMain y → is_variable x y ≡ false) → (ms : Modes) → AreOfMain ms → is_among (declared_in ms) x ≡ false
not_declared x other [] h = refl
not_declared x other (m ∷ ms) h = ap (λ b. b || is_among (declared_in ms) x) (other m.0 h.0) ∙ not_declared x other ms h.1

-- so the declared variables of a program are those of its main program alone
pub only_main : (p : Program) → IsMeant p → OnlyMain (declared_in p.modes)
only_main p m =
    let main = modes_of_main p m in
    record {
      procedures = λ n name. not_declared (Own (suc n) name) (not_procedures n name) p.modes main;
      formers = λ k name. not_declared (Bound k name) (not_formers k name) p.modes main;
    }

-- a table of these declarations serves the code of a store that was started
pub serves : StartsFit → (count : ℕ) (code : RustCode) (declared : List Declared) (d : DeclarationTable) (store : Standing) → d ≡ record { code = code; declared = declared } → store ≡ started count code → IsBare (plain_code code) → AreOfMain (map plain_declared declared) → Serves d store
serves starts count code declared d store made begun bare main = record {
  same = ap (λ (t : DeclarationTable). t.code) made ∙ sym (ap (λ (s : Standing). s.code) begun);
  bare = subst (λ (s : Standing). IsBare (plain_code s.code)) (sym begun) bare;
  main = subst AreOfMain (sym (ap modes_of made)) main;
  fitting = subst (λ (s : Standing). Fitting (modes_of d) s.core) (sym begun) (starts (modes_of d) (plain_code code) no_world);
}

-- what is made of all or none is all or none of what is made
pub map_counted : {A B : Type 0} (f : A → B) (b : Bool) (xs : List A) → map f (if b then xs else []) ≡ (if b then map f xs else [])
map_counted f true xs = refl
map_counted f false xs = refl

-- ---- how many bases there are

-- what names none but so many bases names none but more
pub within_more : (few more : ℕ) (m : Mode) → few ≤ more → NamesWithin few m → NamesWithin more m
within_more few more m most within b named = omega (arith, most, within b named)
