-- Parts of programs that are formed and placed, and how they are put together.
use Rattle.std.proofs.Common.{◌≡◌, ◌≤◌, ℕ, Bool, true, false, List, [], ◌∷◌, ◌++◌, map, length, slice_get, if◌then◌else◌, Option, Some, None, refl}
use Rattle.setl_value.specs.Datum.{Datum}
use Rattle.setl_tree.specs.declared.expr.BinaryOp.{BinaryOp}
use Rattle.setl_tree.specs.declared.expr.BinaryOp.TheVariants as op
use Rattle.setl_tree.specs.declared.expr.Relation.{Relation}
use Rattle.setl_tree.specs.declared.expr.Relation.TheVariants as rel
use Rattle.setl_tree.specs.declared.expr.Fold.{Fold}
use Rattle.setl_tree.specs.declared.expr.Fold.TheVariants as fd
use Rattle.setl_tree.specs.declared.expr.Prefix.{Prefix}
use Rattle.setl_tree.specs.declared.expr.Prefix.TheVariants as pre
use Rattle.setl_tree.specs.declared.expr.Slot.{Slot}
use Rattle.setl_tree.specs.declared.expr.Slot.TheVariants as sl
use Rattle.setl_tree.specs.declared.expr.Bound.{Bound}
use Rattle.setl_tree.specs.declared.expr.Bound.TheVariants as bd
use Rattle.setl_tree.specs.declared.tree.Param.{Param}
use Rattle.setl_tree.specs.declared.tree.Proc.{Proc}
use Rattle.setl_names.specs.Names.{Name as Word, has}
use Rattle.setl_names.specs.Procedures.{found_procedure}
use Rattle.setl_names.specs.Variables as meaning
use Rattle.setl_operators_table.specs.declared.Operator.{Operator}
use Rattle.setl_operators_table.specs.Operators.{operand_count, TakesOperands}
use Rattle.setl_model_runs.specs.Variable.{Variable, Own}
use Rattle.setl_program.specs.declared.kinds.Connective.{Connective}
use Rattle.setl_program.specs.declared.kinds.Collection.{Collection}
use Rattle.setl_program.specs.declared.kinds.Quantifier.{Quantifier}
use Rattle.setl_program.specs.declared.kinds.Source.{Source}
use Rattle.setl_program.specs.Program.{Slots, Binding, begin_of, Expr, Literal, Undefined, Name, Apply, Connect, Choose, Former, Selection, Quantified, Call, Newat, Eof, Ok, Exprs, Iterators, Condition, Arguments, Selectors}
use Rattle.setl_program.specs.Formed.{Around, FormedVariable, FormedSlots, FormedBinding, BindsMembers, parts_of_source, parts_of, HasIterator, number_of, PassedAs, Passed, FormedExpr, FormedExprs, FormedIterators, FormedCondition, FormedArguments, FormedSelectors}
use Rattle.setl_program.specs.Placed.{PlacedVariable, PlacedSlots, PlacedBinding, PlacedExpr, PlacedExprs, PlacedIterators, PlacedCondition, PlacedArguments, PlacedSelectors}
use Rattle.setl_program.specs.Lists.{exprs_of, iterators_of, condition_of}
use Rattle.setl_program.specs.Scope.{Former as Around_former, Scope, in_former, names_of_formers, innermost, former_of, of_former, variable_by, variable_of, bound_by, slot_variable, binding_of}
use Rattle.setl_program.specs.Operators.{one, two, updating, connective, joined, binary, relation, folding, prefix}
use Rattle.setl_program.specs.ProgramOf.{parameter_of}

-- A body of a program: where its parts stand, the names in `var`, and the tree's procedures, whose calls pass what they
-- take.
pub record Context : Type 0 where
  pub around : Around
  pub vars : List Word
  pub procs : List Proc
  pub passes : (f : Word) (k : ℕ) (ps : List Param) → found_procedure procs f ≡ Some (k, ps) → (all : Arguments) → PassedAs (map parameter_of ps) all → Passed (slice_get around.procedures k) all

abbrev pub AllCounted : List Around_former → Type 0
AllCounted [] = Unit {0}
AllCounted (f ∷ fs) = (1 ≤ f.number) × AllCounted fs

-- a scope in the body
pub record Within (c : Context) (s : Scope) : Type 0 where
  pub body : s.body ≡ c.around.body
  pub procedures : s.procedures ≡ c.procs
  pub vars : (x : Word) → has s.vars x ≡ true → has c.vars x ≡ true
  pub formers : AllCounted s.formers

-- ---- formed and placed

module _ (c : Context) where
  pub record FineVariable (x : Variable) : Type 0 where
    pub formed : FormedVariable c.around.body x
    pub placed : PlacedVariable c.vars x

  pub record FineSlots (xs : Slots) : Type 0 where
    pub formed : FormedSlots c.around.body xs
    pub placed : PlacedSlots c.vars xs

  pub record FineBinding (b : Binding) : Type 0 where
    pub formed : FormedBinding c.around.body b
    pub placed : PlacedBinding c.vars b

  pub record Fine (e : Expr) : Type 0 where
    pub formed : FormedExpr c.around e
    pub placed : PlacedExpr c.vars e

  pub record FineExprs (es : Exprs) : Type 0 where
    pub formed : FormedExprs c.around es
    pub placed : PlacedExprs c.vars es

  pub record FineIterators (is : Iterators) : Type 0 where
    pub formed : FormedIterators c.around is
    pub placed : PlacedIterators c.vars is

  pub record FineCondition (t : Condition) : Type 0 where
    pub formed : FormedCondition c.around t
    pub placed : PlacedCondition c.vars t

  pub record FineArguments (all : Arguments) : Type 0 where
    pub formed : FormedArguments c.around all
    pub placed : PlacedArguments c.vars all

  pub record FineSelectors (ss : Selectors) : Type 0 where
    pub formed : FormedSelectors c.around ss
    pub placed : PlacedSelectors c.vars ss

  abbrev pub FineList : List Expr → Type 0
  FineList [] = Unit {0}
  FineList (e ∷ es) = Fine e × FineList es

  abbrev pub FineOption : Option Expr → Type 0
  FineOption None = Unit {0}
  FineOption (Some e) = Fine e

  -- the source of an iterator: as many expressions as it has parts
  pub record FineRange (r : Source × List Expr) : Type 0 where
    pub exprs : FineList r.1
    pub count : length r.1 ≡ parts_of_source r.0

  -- an iterator
  pub record FineTurn (i : Binding × Exprs) : Type 0 where
    pub binding : FineBinding i.0
    pub sources : FineExprs i.1
    pub count : number_of i.1 ≡ parts_of (begin_of i.0)

  abbrev pub FineTurns : List (Binding × Exprs) → Type 0
  FineTurns [] = Unit {0}
  FineTurns (i ∷ is) = FineTurn i × FineTurns is

-- ---- scopes and variables

counted_more : (fs : List Around_former) (f : Around_former) → 1 ≤ f.number → AllCounted fs → AllCounted (fs ++ f ∷ [])
counted_more [] f h g = (h, tt)
counted_more (x ∷ fs) f h g = (g.0, counted_more fs f h g.1)

abbrev pub IsCounted : Option ℕ → Type 0
IsCounted None = Unit {0}
IsCounted (Some m) = 1 ≤ m

chosen : (b : Bool) (m : ℕ) (found : Option ℕ) → 1 ≤ m → IsCounted found → IsCounted (if b then Some m else found)
chosen true m found h g = h
chosen false m found h g = g

innermost_counted : (found : Option ℕ) (fs : List Around_former) (x : Word) → IsCounted found → AllCounted fs → IsCounted (innermost found fs x)
innermost_counted found [] x h g = h
innermost_counted found (f ∷ fs) x h g = innermost_counted (if has f.names x then Some f.number else found) fs x (chosen (has f.names x) f.number found g.0 h) g.1

pub binds_members : (b : Bound) (k : Source) (v : Word → Variable) → BindsMembers (binding_of b k v)
binds_members (bd.Name x) k v = tt
binds_members (bd.Pattern slots) k v = tt

pub parts_of_binding : (b : Bound) (k : Source) (v : Word → Variable) → parts_of (begin_of (binding_of b k v)) ≡ parts_of_source k
parts_of_binding (bd.Name x) k v = refl
parts_of_binding (bd.Pattern slots) k v = refl

module _ {c : Context} where
  pub within_former : {s : Scope} (m : ℕ) (names : List Word) → 1 ≤ m → Within c s → Within c (in_former m names s)
  within_former {s} m names h w = record { body = w.body; procedures = w.procedures; vars = w.vars; formers = counted_more s.formers (record { number = m; names = names }) h w.formers }

  own_variable : {s : Scope} (x : Word) → Within c s → FineVariable c (Own s.body x)
  own_variable x w = record { formed = w.body; placed = tt }

  former_variable : {s : Scope} (m : Option ℕ) (x : Word) → IsCounted m → Within c s → FineVariable c (of_former m s x)
  former_variable (Some m) x h w = record { formed = tt; placed = h }
  former_variable None x h w = own_variable x w

  variable_by_rules : {s : Scope} (own params : Bool) (vars : Bool) (x : Word) → has s.vars x ≡ vars → Within c s →
      FineVariable c (variable_by s x (if own then meaning.OfFormer else (if params then meaning.OfParameter else (if vars then meaning.OfProgram else meaning.OfBody))))
  variable_by_rules {s} true params vars x h w = former_variable (former_of s x) x (innermost_counted None s.formers x tt w.formers) w
  variable_by_rules false true vars x h w = own_variable x w
  variable_by_rules false false true x h w = record { formed = tt; placed = w.vars x h }
  variable_by_rules false false false x h w = own_variable x w

  pub variable_fine : {s : Scope} (x : Word) → Within c s → FineVariable c (variable_of s x)
  variable_fine {s} x w = variable_by_rules (has (names_of_formers s.formers) x) (has s.parameters x) (has s.vars x) x refl w

  pub bound_fine : {s : Scope} (m : Option ℕ) (x : Word) → IsCounted m → Within c s → FineVariable c (bound_by m s x)
  bound_fine (Some m) x h w = record { formed = tt; placed = h }
  bound_fine None x h w = variable_fine x w

  pub slots_fine : (v : Word → Variable) (slots : List Slot) → ((x : Word) → FineVariable c (v x)) → FineSlots c (map (slot_variable v) slots)
  slots_fine v [] h = record { formed = tt; placed = tt }
  slots_fine v (sl.Name x ∷ slots) h = let rest = slots_fine v slots h in record { formed = ((h x).formed, rest.formed); placed = ((h x).placed, rest.placed) }
  slots_fine v (sl.Skip ∷ slots) h = let rest = slots_fine v slots h in record { formed = rest.formed; placed = rest.placed }

  pub binding_fine : (b : Bound) (k : Source) (v : Word → Variable) → ((x : Word) → FineVariable c (v x)) → FineBinding c (binding_of b k v)
  binding_fine (bd.Name x) k v h = record { formed = (h x).formed; placed = (h x).placed }
  binding_fine (bd.Pattern slots) k v h = let all = slots_fine v slots h in record { formed = all.formed; placed = all.placed }

  -- ---- lists

  pub exprs_fine : (es : List Expr) → FineList c es → FineExprs c (exprs_of es)
  exprs_fine [] h = record { formed = tt; placed = tt }
  exprs_fine (e ∷ es) h = let rest = exprs_fine es h.1 in record { formed = (h.0.formed, rest.formed); placed = (h.0.placed, rest.placed) }

  pub iterators_fine : (is : List (Binding × Exprs)) → FineTurns c is → FineIterators c (iterators_of is)
  iterators_fine [] h = record { formed = tt; placed = tt }
  iterators_fine (i ∷ is) h = let rest = iterators_fine is h.1 in record { formed = (h.0.binding.formed, h.0.sources.formed, h.0.count, rest.formed); placed = (h.0.binding.placed, h.0.sources.placed, rest.placed) }

  pub condition_fine : (t : Option Expr) → FineOption c t → FineCondition c (condition_of t)
  condition_fine None h = record { formed = tt; placed = tt }
  condition_fine (Some e) h = record { formed = h.formed; placed = h.placed }

  -- ---- expressions

  pub fine_literal : {d : Datum} → Fine c (Literal d)
  fine_literal = record { formed = tt; placed = tt }

  pub fine_undefined : Fine c Undefined
  fine_undefined = record { formed = tt; placed = tt }

  pub fine_name : {x : Variable} → FineVariable c x → Fine c (Name x)
  fine_name h = record { formed = h.formed; placed = h.placed }

  pub fine_apply : {f : Operator} {es : Exprs} → TakesOperands f (number_of es) → FineExprs c es → Fine c (Apply f es)
  fine_apply n h = record { formed = h.formed; placed = (n, h.placed) }

  pub fine_one : {f : Operator} {e : Expr} → TakesOperands f 1 → Fine c e → Fine c (one f e)
  fine_one n h = fine_apply n (record { formed = (h.formed, tt); placed = (h.placed, tt) })

  pub fine_two : {f : Operator} {a b : Expr} → TakesOperands f 2 → Fine c a → Fine c b → Fine c (two f a b)
  fine_two n g h = fine_apply n (record { formed = (g.formed, (h.formed, tt)); placed = (g.placed, (h.placed, tt)) })

  pub fine_connect : {k : Connective} {a b : Expr} → Fine c a → Fine c b → Fine c (Connect k a b)
  fine_connect g h = record { formed = (g.formed, h.formed); placed = (g.placed, h.placed) }

  pub fine_choose : {t a b : Expr} → Fine c t → Fine c a → Fine c b → Fine c (Choose t a b)
  fine_choose f g h = record { formed = (f.formed, g.formed, h.formed); placed = (f.placed, g.placed, h.placed) }

  pub fine_former : {k : Collection} {e : Expr} {is : Iterators} {t : Condition} → HasIterator is → Fine c e → FineIterators c is → FineCondition c t → Fine c (Former k e is t)
  fine_former n f g h = record { formed = (n, f.formed, g.formed, h.formed); placed = (f.placed, g.placed, h.placed) }

  pub fine_selection : {k : Collection} {b : Binding} {es : Exprs} {t : Expr} → BindsMembers b → FineBinding c b → FineExprs c es → number_of es ≡ parts_of (begin_of b) → Fine c t → Fine c (Selection k b es t)
  fine_selection m f g n h = record { formed = (m, f.formed, g.formed, n, h.formed); placed = (f.placed, g.placed, h.placed) }

  pub fine_quantified : {q : Quantifier} {is : Iterators} {t : Expr} → HasIterator is → FineIterators c is → Fine c t → Fine c (Quantified q is t)
  fine_quantified n g h = record { formed = (n, g.formed, h.formed); placed = (g.placed, h.placed) }

  pub fine_call : {f : ℕ} {all : Arguments} → Passed (slice_get c.around.procedures f) all → FineArguments c all → Fine c (Call f all)
  fine_call n h = record { formed = (n, h.formed); placed = h.placed }

  pub fine_newat : Fine c Newat
  fine_newat = record { formed = tt; placed = tt }

  pub fine_eof : Fine c Eof
  fine_eof = record { formed = tt; placed = tt }

  pub fine_ok : Fine c Ok
  fine_ok = record { formed = tt; placed = tt }

-- ---- operators

-- an operator between two operands
pub updates : (f : BinaryOp) → operand_count (updating f) ≡ Some 2
updates op.With = refl
updates op.Less = refl
updates op.Lessf = refl
updates op.Npow = refl
updates op.Plus = refl
updates op.Minus = refl
updates op.Max = refl
updates op.Min = refl
updates op.Times = refl
updates op.Div = refl
updates op.Mod = refl
updates op.Power = refl
updates _ = refl

takes_two : (f : Operator) → operand_count f ≡ Some 2 → TakesOperands f 2
takes_two f h = rw h refl

relates : (r : Relation) → TakesOperands (relation r) 2
relates rel.Equal = refl
relates rel.NotEqual = refl
relates rel.LessThan = refl
relates rel.AtMost = refl
relates rel.GreaterThan = refl
relates rel.AtLeast = refl
relates rel.In = refl
relates rel.Notin = refl
relates rel.Subset = refl
relates rel.Incs = refl

folds : (f : Fold) → TakesOperands (folding f) 1
folds fd.Plus = refl
folds fd.Times = refl
folds fd.Max = refl
folds fd.Min = refl
folds fd.And = refl
folds fd.Or = refl

stands_before : (p : Prefix) → TakesOperands (prefix p) 1
stands_before pre.Not = refl
stands_before pre.Minus = refl
stands_before pre.Size = refl
stands_before pre.Abs = refl
stands_before pre.Even = refl
stands_before pre.Odd = refl
stands_before pre.Pow = refl
stands_before pre.Domain = refl
stands_before pre.Range = refl
stands_before pre.Arb = refl
stands_before pre.Str = refl
stands_before pre.IsInteger = refl
stands_before pre.IsString = refl
stands_before pre.IsBoolean = refl
stands_before pre.IsAtom = refl
stands_before pre.IsTuple = refl
stands_before pre.IsSet = refl
stands_before pre.IsMap = refl
stands_before (pre.Folded f) = folds f

module _ {c : Context} where
  joined_fine : (k : Option Connective) (f : Operator) {a b : Expr} → TakesOperands f 2 → Fine c a → Fine c b → Fine c (joined k f a b)
  joined_fine None f n g h = fine_two n g h
  joined_fine (Some k) f n g h = fine_connect g h

  pub binary_fine : (f : BinaryOp) {a b : Expr} → Fine c a → Fine c b → Fine c (binary f a b)
  binary_fine f g h = joined_fine (connective f) (updating f) (takes_two (updating f) (updates f)) g h

  pub relation_fine : (r : Relation) {a b : Expr} → Fine c a → Fine c b → Fine c (two (relation r) a b)
  relation_fine r g h = fine_two (relates r) g h

  pub prefix_fine : (p : Prefix) {e : Expr} → Fine c e → Fine c (one (prefix p) e)
  prefix_fine p h = fine_one (stands_before p) h
