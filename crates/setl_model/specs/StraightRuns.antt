-- Where the steps of assignments, updates and prints lead, in one sentence for each statement.
use Rattle.std.specs.Prelude.{◌≡◌, ℕ, Bool, true, List, [], ◌∷◌, ◌++◌, reverse, refl, Option, Some, None}
use Rattle.std.proofs.Common.{sym, ap, ◌∙◌, subst, append_assoc, append-nil}
use Rattle.std.proofs.Math.Nat.{sub-zero}
use Rattle.std.proofs.lemmas.Grind.{reverse_onto}
use Rattle.setl_value.specs.Datum.{Datum}
use Rattle.setl_model_runs.specs.Variable.{Variable, Global, Own, Bound}
use Rattle.setl_operators_table.specs.declared.Operator.{Operator}
use Rattle.setl_operators_table.specs.Outcome.{Outcome, Gives}
use Rattle.setl_operators_table.specs.Operators.{op_of}
use Rattle.setl_program.specs.Program.{Expr, Literal, Undefined, Name, Apply, Exprs, no_expr, more_exprs, no_selector, Stmt, Assign, Update, Print, Block, no_stmt, more_stmts, Program}
use Rattle.setl_model_runs.specs.Events.{Event, Unfit, Stopped, Done}
use Rattle.setl_model_runs.specs.Run.{Moves, State, Goes, Ends, if_fits, stored, settle, and_then, run}
use Rattle.setl_model_runs.specs.RunLaws.{runs_join}
use Rattle.setl_model.specs.Core.{Shared, Hand, Execute, Evaluate, Result, Operands, AssignRight, UpdateRight, PrintParts, Frame, InExpr, InStmt, Then, Snapshot, Core, read_variable, write_variable}
use Rattle.setl_model.specs.Moves.{store_or_bind, with_outcome, deliver}
use Rattle.setl_model.specs.Expressions.{operands}
use Rattle.setl_text.specs.Texts.{print_line}
use Rattle.setl_model.specs.Statements.{print_parts}
use Rattle.setl_model.specs.Step.{language, test_of}

-- ---- values

-- an expression of literals, names and operators has the value v, without a charge
abbrev mutual
  pub Evaluates : Shared → Expr → Option Datum → Type 0
  Evaluates s (Literal d) v = v ≡ Some d
  Evaluates s Undefined v = v ≡ None
  Evaluates s (Name x) v = v ≡ read_variable x s
  Evaluates s (Apply o es) v = (vs : List (Option Datum)) × EvaluateAll s es vs × (op_of o vs s.world.left ≡ Gives v 0)
  Evaluates s e v = ⊥

  pub EvaluateAll : Shared → Exprs → List (Option Datum) → Type 0
  EvaluateAll s no_expr vs = vs ≡ []
  EvaluateAll s (more_exprs e es) vs = (v : Option Datum) × (later : List (Option Datum)) × (vs ≡ v ∷ later) × Evaluates s e v × EvaluateAll s es later

-- ---- where steps lead

abbrev pub core_of : Shared → Hand → List Frame → List Snapshot → Core
core_of shared hand work kept = record { shared = shared; hand = hand; work = work; kept = kept }

-- steps lead from a state to one with this core and this output
pub record Leads (p : Program) (based : Bool) (s : State Core) (core : Core) (out : List ℕ) : Type 0 where
  pub steps : ℕ
  pub last : State Core
  pub goes : run (language p) (test_of p.modes based) steps s ≡ Goes last
  pub stands : last.core ≡ core
  pub written : last.out ≡ out

pub leads_on : (p : Program) (based : Bool) (s : State Core) (b c : Core) (o o' : List ℕ) → Leads p based s b o → ((t : State Core) → t.core ≡ b → t.out ≡ o → Leads p based t c o') → Leads p based s c o'
leads_on p based s b c o o' h next =
    let later = next h.last h.stands h.written in
    let whole = runs_join (language p) (test_of p.modes based) h.steps later.steps s h.last (Goes later.last) h.goes later.goes in
    record { steps = whole.0; last = later.last; goes = whole.1; stands = later.stands; written = later.written }

-- a move without stores
moved : (p : Program) (based : Bool) (s : State Core) (c : Core) (said : List ℕ) (told : List Event) (line : ℕ) → (language p).move s.core ≡ Moves said told c line [] → Leads p based s c (s.out ++ said)
moved p based s c said told line h =
    record {
      steps = 1;
      last = record { core = c; out = s.out ++ said; events = s.events ++ told };
      goes = ap (λ m. and_then (settle (language p) (test_of p.modes based) s m) Goes) h;
      stands = refl;
      written = refl;
    }

-- a move that writes nothing
quiet : (p : Program) (based : Bool) (s : State Core) (c : Core) (line : ℕ) → (language p).move s.core ≡ Moves [] [] c line [] → Leads p based s c s.out
quiet p based s c line h = subst (Leads p based s c) (append-nil s.out) (moved p based s c [] [] line h)

-- a move with one store, whose value fits
stores_one : (p : Program) (based : Bool) (s : State Core) (c : Core) (line : ℕ) (x : Variable) (v : Option Datum) → (language p).move s.core ≡ Moves [] [] c line ((x, v) ∷ []) → test_of p.modes based x v ≡ true → Leads p based s ((language p).write x v c) s.out
stores_one p based s c line x v h fits =
    record {
      steps = 1;
      last = stored (language p) line (x, v) (record { core = c; out = s.out ++ []; events = s.events ++ [] });
      goes = ap (λ m. and_then (settle (language p) (test_of p.modes based) s m) Goes) h ∙ ap (λ b. and_then (if_fits b (Goes (stored (language p) line (x, v) (record { core = c; out = s.out ++ []; events = s.events ++ [] }))) (Stopped (Unfit x) line) (record { core = c; out = s.out ++ []; events = s.events ++ [] })) Goes) fits;
      stands = refl;
      written = append-nil s.out;
    }

-- the same, or a former's own name is bound
storing : (p : Program) (based : Bool) (s : State Core) (c : Core) (line : ℕ) (x : Variable) (v : Option Datum) (hand : Hand) (work : List Frame) → (language p).move s.core ≡ store_or_bind line x v hand work c → test_of p.modes based x v ≡ true → Leads p based s (record c { shared = write_variable x v c.shared; hand = hand; work = work }) s.out
storing p based s c line (Global name) v hand work h fits = stores_one p based s (record c { hand = hand; work = work }) line (Global name) v h fits
storing p based s c line (Own body name) v hand work h fits = stores_one p based s (record c { hand = hand; work = work }) line (Own body name) v h fits
storing p based s c line (Bound former name) v hand work h fits = quiet p based s _ 0 h

-- ---- expressions

then_lead : (p : Program) (based : Bool) (s : State Core) (b c : Core) (o : List ℕ) → Leads p based s b o → ((t : State Core) → t.core ≡ b → Leads p based t c t.out) → Leads p based s c o
then_lead p based s b c o h next = leads_on p based s b c o o h (λ t stands out. subst (Leads p based t c) out (next t stands))

-- one operand more
moved_over : (got : List (Option Datum)) (v : Option Datum) (later vs : List (Option Datum)) → vs ≡ v ∷ later → reverse (v ∷ got) ++ later ≡ reverse got ++ vs
moved_over got v later vs h = ap (λ l. l ++ later) (reverse_onto got v []) ∙ append_assoc (reverse got) (v ∷ []) later ∙ ap (λ l. reverse got ++ l) (sym h)

-- all operands
none_later : (got vs : List (Option Datum)) → vs ≡ [] → reverse got ++ vs ≡ reverse got
none_later got vs h = ap (λ l. reverse got ++ l) h ∙ append-nil (reverse got)

delivered : (o : Outcome) (shared : Shared) (h : Hand) (w work : List Frame) (kept : List Snapshot) (v : Option Datum) → o ≡ Gives v 0 → deliver o work (core_of shared h w kept) ≡ Moves [] [] (core_of shared (Result v) work kept) 0 []
delivered o shared h w work kept v given =
    ap (λ x. deliver x work (core_of shared h w kept)) given
    ∙ ap (λ n. Moves [] [] (core_of (record shared { world = record shared.world { left = n } }) (Result v) work kept) 0 []) (sub-zero shared.world.left)

mutual
  -- the steps of an expression lead to its value
  pub expr_leads : (p : Program) (based : Bool) (e : Expr) (shared : Shared) (work : List Frame) (kept : List Snapshot) (v : Option Datum) → Evaluates shared e v → (s : State Core) → s.core ≡ core_of shared (Evaluate e) work kept → Leads p based s (core_of shared (Result v) work kept) s.out
  expr_leads p based (Literal d) shared work kept v h s stands =
      quiet p based s _ 0 (ap (language p).move stands ∙ ap (λ w. Moves [] [] (core_of shared (Result w) work kept) 0 []) (sym h))
  expr_leads p based Undefined shared work kept v h s stands =
      quiet p based s _ 0 (ap (language p).move stands ∙ ap (λ w. Moves [] [] (core_of shared (Result w) work kept) 0 []) (sym h))
  expr_leads p based (Name x) shared work kept v h s stands =
      quiet p based s _ 0 (ap (language p).move stands ∙ ap (λ w. Moves [] [] (core_of shared (Result w) work kept) 0 []) (sym h))
  expr_leads p based (Apply o es) shared work kept v h s stands =
      operands_lead p based es o [] h.0 shared (Evaluate (Apply o es)) work work kept v h.1 h.2 s (ap (language p).move stands)
  expr_leads p based e shared work kept v h s stands = absurd h

  operands_lead : (p : Program) (based : Bool) (es : Exprs) (o : Operator) (got vs : List (Option Datum)) (shared : Shared) (h : Hand) (w work : List Frame) (kept : List Snapshot) (v : Option Datum) → EvaluateAll shared es vs → op_of o (reverse got ++ vs) shared.world.left ≡ Gives v 0 → (s : State Core) → (language p).move s.core ≡ operands o got es work (core_of shared h w kept) → Leads p based s (core_of shared (Result v) work kept) s.out
  operands_lead p based no_expr o got vs shared h w work kept v all given s moves =
      quiet p based s _ 0 (moves ∙ delivered (op_of o (reverse got) shared.world.left) shared h w work kept v (ap (λ l. op_of o l shared.world.left) (sym (none_later got vs all)) ∙ given))
  operands_lead p based (more_exprs e rest) o got vs shared h w work kept v all given s moves =
      then_lead p based s _ _ s.out
      (then_lead p based s _ _ s.out (quiet p based s _ 0 moves) (λ t stands. expr_leads p based e shared (InExpr (Operands o got rest) ∷ work) kept all.0 all.3 t stands))
      (λ t stands. operands_lead p based rest o (all.0 ∷ got) all.1 shared (Result all.0) (InExpr (Operands o got rest) ∷ work) work kept v all.4
      (ap (λ l. op_of o l shared.world.left) (moved_over got all.0 all.1 vs all.2) ∙ given) t (ap (language p).move stands))

-- ---- statements

-- the end of one statement leads to the statements that follow
next_statement : (p : Program) (based : Bool) (shared : Shared) (rest : Block) (work : List Frame) (kept : List Snapshot) (s : State Core) → s.core ≡ core_of shared (Execute no_stmt) (Then rest ∷ work) kept → Leads p based s (core_of shared (Execute rest) work kept) s.out
next_statement p based shared rest work kept s stands = quiet p based s _ 0 (ap (language p).move stands)

-- x := e
abbrev pub assign : Variable → Expr → Stmt
assign x e = Assign (record { variable = x; selectors = no_selector }) e

-- an assignment leads to the environment in which the variable holds the value
abbrev pub AssignLeads : Type 0
AssignLeads = (p : Program) (based : Bool) (line : ℕ) (x : Variable) (e : Expr) (rest : Block) (shared : Shared) (work : List Frame) (kept : List Snapshot) (v : Option Datum) → Evaluates shared e v → test_of p.modes based x v ≡ true → (s : State Core) → s.core ≡ core_of shared (Execute (more_stmts line (assign x e) rest)) work kept → Leads p based s (core_of (write_variable x v shared) (Execute rest) work kept) s.out

pub assign_leads : AssignLeads
assign_leads p based line x e rest shared work kept v h fits s stands =
    then_lead p based s _ _ s.out
    (then_lead p based s _ _ s.out
    (then_lead p based s _ _ s.out (quiet p based s _ 0 (ap (language p).move stands)) (λ t at. expr_leads p based e shared _ kept v h t at))
    (λ t at. storing p based t (core_of shared (Result v) (InStmt line (AssignRight (record { variable = x; selectors = no_selector })) ∷ Then rest ∷ work) kept) line x v (Execute no_stmt) (Then rest ∷ work)
    (ap (language p).move at ∙ ap (λ n. store_or_bind line x v (Execute no_stmt) (Then rest ∷ work) (core_of (record shared { world = record shared.world { left = n } }) (Result v) (InStmt line (AssignRight (record { variable = x; selectors = no_selector })) ∷ Then rest ∷ work) kept)) (sub-zero shared.world.left)) fits))
    (λ t at. next_statement p based (write_variable x v shared) rest work kept t at)

-- x op:= e
abbrev pub combine : Operator → Variable → Expr → Stmt
combine o x e = Update o (record { variable = x; selectors = no_selector }) e

-- an update leads to the environment in which the variable holds what the operator gives
abbrev pub CombineLeads : Type 0
CombineLeads = (p : Program) (based : Bool) (line : ℕ) (o : Operator) (x : Variable) (e : Expr) (rest : Block) (shared : Shared) (work : List Frame) (kept : List Snapshot) (v new : Option Datum) → Evaluates shared e v → op_of o (read_variable x shared ∷ v ∷ []) shared.world.left ≡ Gives new 0 → test_of p.modes based x new ≡ true → (s : State Core) → s.core ≡ core_of shared (Execute (more_stmts line (combine o x e) rest)) work kept → Leads p based s (core_of (write_variable x new shared) (Execute rest) work kept) s.out

pub combine_leads : CombineLeads
combine_leads p based line o x e rest shared work kept v new h given fits s stands =
    then_lead p based s _ _ s.out
    (then_lead p based s _ _ s.out
    (then_lead p based s _ _ s.out (quiet p based s _ 0 (ap (language p).move stands)) (λ t at. expr_leads p based e shared _ kept v h t at))
    (λ t at. storing p based t (core_of shared (Result v) (InStmt line (UpdateRight o (record { variable = x; selectors = no_selector })) ∷ Then rest ∷ work) kept) line x new (Execute no_stmt) (Then rest ∷ work)
    (ap (language p).move at ∙ ap (λ outcome. with_outcome outcome line (core_of shared (Result v) (InStmt line (UpdateRight o (record { variable = x; selectors = no_selector })) ∷ Then rest ∷ work) kept) (λ w d. store_or_bind line x w (Execute no_stmt) (Then rest ∷ work) d)) given
    ∙ ap (λ n. store_or_bind line x new (Execute no_stmt) (Then rest ∷ work) (core_of (record shared { world = record shared.world { left = n } }) (Result v) (InStmt line (UpdateRight o (record { variable = x; selectors = no_selector })) ∷ Then rest ∷ work) kept)) (sub-zero shared.world.left)) fits))
    (λ t at. next_statement p based (write_variable x new shared) rest work kept t at)

parts_lead : (p : Program) (based : Bool) (es : Exprs) (line : ℕ) (got vs : List (Option Datum)) (shared : Shared) (h : Hand) (w work : List Frame) (kept : List Snapshot) → EvaluateAll shared es vs → (s : State Core) → (language p).move s.core ≡ print_parts line got es work (core_of shared h w kept) → Leads p based s (core_of shared (Execute no_stmt) work kept) (s.out ++ print_line (reverse got ++ vs))
parts_lead p based no_expr line got vs shared h w work kept all s moves =
    subst (λ l. Leads p based s (core_of shared (Execute no_stmt) work kept) (s.out ++ print_line l)) (sym (none_later got vs all)) (moved p based s _ (print_line (reverse got)) _ 0 moves)
parts_lead p based (more_exprs e rest) line got vs shared h w work kept all s moves =
    leads_on p based s _ _ s.out _
    (then_lead p based s _ _ s.out (quiet p based s _ 0 moves) (λ t at. expr_leads p based e shared (InStmt line (PrintParts got rest) ∷ work) kept all.0 all.3 t at))
    (λ t at out. subst (λ o. Leads p based t (core_of shared (Execute no_stmt) work kept) (o ++ print_line (reverse got ++ vs))) out
    (subst (λ l. Leads p based t (core_of shared (Execute no_stmt) work kept) (t.out ++ print_line l)) (moved_over got all.0 all.1 vs all.2)
    (parts_lead p based rest line (all.0 ∷ got) all.1 shared (Result all.0) (InStmt line (PrintParts got rest) ∷ work) work kept all.4 t (ap (language p).move at))))

-- a print leads to the same environment and writes the line of its values
abbrev pub PrintLeads : Type 0
PrintLeads = (p : Program) (based : Bool) (line : ℕ) (es : Exprs) (rest : Block) (shared : Shared) (work : List Frame) (kept : List Snapshot) (vs : List (Option Datum)) → EvaluateAll shared es vs → (s : State Core) → s.core ≡ core_of shared (Execute (more_stmts line (Print es) rest)) work kept → Leads p based s (core_of shared (Execute rest) work kept) (s.out ++ print_line vs)

pub print_leads : PrintLeads
print_leads p based line es rest shared work kept vs all s stands =
    leads_on p based s _ _ (s.out ++ print_line vs) _ (parts_lead p based es line [] vs shared _ work (Then rest ∷ work) kept all s (ap (language p).move stands))
    (λ t at out. subst (Leads p based t (core_of shared (Execute rest) work kept)) out (next_statement p based shared rest work kept t at))

-- a state that leads to the end of the main program means that output and Done
pub leads_to_done : (p : Program) (based : Bool) (s : State Core) (shared : Shared) (kept : List Snapshot) (o : List ℕ) → Leads p based s (core_of shared (Execute no_stmt) [] kept) o → (j : ℕ) × (last : State Core) × (run (language p) (test_of p.modes based) j s ≡ Ends Done last) × (last.out ≡ o)
leads_to_done p based s shared kept o h =
    let ends : run (language p) (test_of p.modes based) 1 h.last ≡ Ends Done h.last = ap (λ c. and_then (settle (language p) (test_of p.modes based) h.last ((language p).move c)) Goes) h.stands in
    let whole = runs_join (language p) (test_of p.modes based) h.steps 1 s h.last (Ends Done h.last) h.goes ends in
    (whole.0, h.last, whole.1, h.written)
