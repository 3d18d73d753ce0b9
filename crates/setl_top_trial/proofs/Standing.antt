-- What stands in each form of a tree that the trial has, by what stands in its parts.
use Rattle.std.proofs.Common.{◌≡◌, ℕ, ℤ, List, [], ◌∷◌, ◌++◌, map, Option, Some, None, refl, sym, ap, ◌∙◌}
use Rattle.setl_tree.specs.declared.expr.BinaryOp.{BinaryOp}
use Rattle.setl_tree.specs.declared.expr.Relation.{Relation}
use Rattle.setl_tree.specs.declared.expr.Prefix.{Prefix}
use Rattle.setl_tree.specs.declared.expr.Bound.{Bound}
use Rattle.setl_tree.specs.declared.expr.Expr.{Expr, fold-roll-Expr}
use Rattle.setl_tree.specs.declared.expr.Expr.TheVariants as e
use Rattle.setl_tree.specs.declared.expr.Expr.TheOpen.{Expr-F, Inner-F, Iter-F, Selector-F}
use Rattle.setl_tree.specs.declared.expr.Inner.{Inner, fold-roll-Inner}
use Rattle.setl_tree.specs.declared.expr.Inner.TheVariants as inn
use Rattle.setl_tree.specs.declared.expr.Iter.{Iter, fold-roll-Iter}
use Rattle.setl_tree.specs.declared.expr.Iter.TheVariants as it
use Rattle.setl_tree.specs.declared.expr.Selector.{Selector, fold-roll-Selector}
use Rattle.setl_tree.specs.declared.expr.Selector.TheVariants as se
use Rattle.setl_tree.specs.declared.stmt.FromEnd.{FromEnd}
use Rattle.setl_tree.specs.declared.stmt.Branch.{Branch, roll-Branch, fold-roll-Branch}
use Rattle.setl_tree.specs.declared.stmt.Stmt.{Stmt, roll-Stmt, fold-roll-Stmt}
use Rattle.setl_tree.specs.declared.stmt.StmtKind.{StmtKind, fold-roll-StmtKind}
use Rattle.setl_tree.specs.declared.stmt.StmtKind.TheVariants as st
use Rattle.setl_tree.specs.declared.stmt.StmtKind.TheOpen.{StmtKind-F}
use Rattle.setl_tree.specs.declared.mode.Attribute.{Attribute}
use Rattle.setl_tree.specs.declared.mode.Core.{Core, fold-Core, fold-roll-Core}
use Rattle.setl_tree.specs.declared.mode.Core.TheVariants as co
use Rattle.setl_tree.specs.declared.mode.Core.TheOpen.{Core-F}
use Rattle.setl_tree.specs.declared.mode.WrittenMode.{WrittenMode, roll-WrittenMode, fold-roll-WrittenMode}
use Rattle.setl_modes_written.specs.Written.{Written, Simple, Element, Set, Mmap, core_step, mode_step, written}
use Rattle.setl_names.specs.Names.{Name}
use Rattle.setl_names.specs.Places.{in_statement, in_a_loop}
use Rattle.setl_names.specs.Occurrences.{Standing, Part, Turn, Behind, unnamed, none, named, all_named, all_parts, all_behind, loose_list, ordinary_turns, expr_step, inner_step, iter_step, selector_step, part, inner_standing, turn, behind}
use Rattle.setl_names.specs.Occurrences as n
use Rattle.setl_names.specs.Statements.{Told, Placed, all_told, kind_step, branch_step, stmt_step, stmt_told, kind_told, branch_told}

-- a function's value at an argument, and its values at those of a list
pub record Is {A B : Type 0} (f : A → B) (x : A) (y : B) : Type 0 where
  pub same : f x ≡ y

pub record Are {A B : Type 0} (f : A → B) (xs : List A) (ys : List B) : Type 0 where
  pub same : map f xs ≡ ys

both : {A B C : Type 0} (f : A → B → C) {a x : A} {b y : B} → a ≡ x → b ≡ y → f a b ≡ f x y
both f {x = x} {b = b} p q = ap (λ z. f z b) p ∙ ap (f x) q

pub empty : {A B : Type 0} {f : A → B} → Are f [] []
empty = record { same = refl }

pub more : {A B : Type 0} {f : A → B} {a : A} {b : B} {xs : List A} {ys : List B} → Is f a b → Are f xs ys → Are f (a ∷ xs) (b ∷ ys)
more p q = record { same = both ◌∷◌ p.same q.same }

-- a list of one
pub alone : {A B : Type 0} {f : A → B} {a : A} {b : B} → Is f a b → Are f (a ∷ []) (b ∷ [])
alone p = more p empty

-- ---- expressions

pub number : (v : ℤ) → Is part (e.Number v) (unnamed none)
number v = record { same = ap part (sym (e.rolls-Number v)) ∙ fold-roll-Expr Part Standing Turn Behind expr_step inner_step iter_step selector_step (Expr-F.Number v) }

pub om : Is part e.Om (unnamed none)
om = record { same = ap part (sym e.rolls-Om) ∙ fold-roll-Expr Part Standing Turn Behind expr_step inner_step iter_step selector_step Expr-F.Om }

pub name : (x : Name) → Is part (e.Name x) (record { standing = named x; name = Some x })
name x = record { same = ap part (sym (e.rolls-Name x)) ∙ fold-roll-Expr Part Standing Turn Behind expr_step inner_step iter_step selector_step (Expr-F.Name x) }

pub set : {x : Inner} {s : Standing} → Is inner_standing x s → Is part (e.Set x) (unnamed s)
set {x = x} p = record { same = (ap part (sym (e.rolls-Set x)) ∙ fold-roll-Expr Part Standing Turn Behind expr_step inner_step iter_step selector_step (Expr-F.Set x)) ∙ ap unnamed p.same }

pub tuple : {x : Inner} {s : Standing} → Is inner_standing x s → Is part (e.Tuple x) (unnamed s)
tuple {x = x} p = record { same = (ap part (sym (e.rolls-Tuple x)) ∙ fold-roll-Expr Part Standing Turn Behind expr_step inner_step iter_step selector_step (Expr-F.Tuple x)) ∙ ap unnamed p.same }

pub compare : {x y : Expr} (o : Relation) {a b : Part} → Is part x a → Is part y b → Is part (e.Compare x o y) (unnamed (λ p. a.standing p ++ b.standing p))
compare {x = x} {y = y} o h k = record {
  same = (ap part (sym (e.rolls-Compare x o y)) ∙ fold-roll-Expr Part Standing Turn Behind expr_step inner_step iter_step selector_step (Expr-F.Compare x o y))
      ∙ both (λ a b. expr_step (Expr-F.Compare a o b)) h.same k.same;
}

pub prefixed : {x : Expr} (ps : List Prefix) {a : Part} → Is part x a → Is part (e.Prefixed ps x) (unnamed a.standing)
prefixed {x = x} ps h = record {
  same = (ap part (sym (e.rolls-Prefixed ps x)) ∙ fold-roll-Expr Part Standing Turn Behind expr_step inner_step iter_step selector_step (Expr-F.Prefixed ps x))
      ∙ ap (λ (a : Part). unnamed a.standing) h.same;
}

pub selected : {x : Expr} {ss : List Selector} {a : Part} {bs : List Behind} → Is part x a → Are behind ss bs → Is part (e.Selected x ss) (unnamed (n.selected a bs))
selected {x = x} {ss = ss} h k = record {
  same = (ap part (sym (e.rolls-Selected x ss)) ∙ fold-roll-Expr Part Standing Turn Behind expr_step inner_step iter_step selector_step (Expr-F.Selected x ss))
      ∙ both (λ a bs. unnamed (n.selected a bs)) h.same k.same;
}

pub list : {xs : List Expr} {ps : List Part} → Are part xs ps → Is inner_standing (inn.List xs) (all_parts ps)
list {xs = xs} h = record {
  same = (ap inner_standing (sym (inn.rolls-List xs)) ∙ fold-roll-Inner Part Standing Turn Behind expr_step inner_step iter_step selector_step (Inner-F.List xs))
      ∙ ap all_parts h.same;
}

pub over : (b : Bound) {x : Expr} {a : Part} → Is part x a → Is turn (it.Over b x) (iter_step (Iter-F.Over b a))
over b {x = x} h = record {
  same = (ap turn (sym (it.rolls-Over b x)) ∙ fold-roll-Iter Part Standing Turn Behind expr_step inner_step iter_step selector_step (Iter-F.Over b x))
      ∙ ap (λ (a : Part). iter_step (Iter-F.Over b a)) h.same;
}

pub round : {xs : List Expr} {ps : List Part} → Are part xs ps → Is behind (se.Round xs) (record { standing = loose_list ps; list = Some ps })
round {xs = xs} h = record {
  same = (ap behind (sym (se.rolls-Round xs)) ∙ fold-roll-Selector Part Standing Turn Behind expr_step inner_step iter_step selector_step (Selector-F.Round xs))
      ∙ ap (λ (ps : List Part). selector_step (Selector-F.Round ps)) h.same;
}

pub braces : {xs : List Expr} {ps : List Part} → Are part xs ps → Is behind (se.Braces xs) (record { standing = all_parts ps; list = None })
braces {xs = xs} h = record {
  same = (ap behind (sym (se.rolls-Braces xs)) ∙ fold-roll-Selector Part Standing Turn Behind expr_step inner_step iter_step selector_step (Selector-F.Braces xs))
      ∙ ap (λ (ps : List Part). selector_step (Selector-F.Braces ps)) h.same;
}

-- ---- statements

pub statement : (line : ℕ) {k : StmtKind} {t : Placed} → Is kind_told k t → Is stmt_told (roll-Stmt (record { line = line; kind = k })) (t (in_statement line))
statement line {k = k} h = record { same = fold-roll-Stmt Placed Placed Told kind_step branch_step stmt_step (record { line = line; kind = k }) ∙ ap (λ (t : Placed). t (in_statement line)) h.same }

pub branch : {c : Expr} {body : List Stmt} {a : Part} {ts : List Told} → Is part c a → Are stmt_told body ts → Is branch_told (roll-Branch (record { condition = c; body = body })) (λ p w. a.standing p ++ all_told ts w)
branch {c = c} {body = body} h k = record { same = fold-roll-Branch Placed Placed Told kind_step branch_step stmt_step (record { condition = c; body = body }) ∙ both {C = Placed} (λ (a : Part) (ts : List Told) p w. a.standing p ++ all_told ts w) h.same k.same }

-- what is stored to
abbrev aim : Name → List Behind → Standing
aim x bs p = named x p ++ all_behind bs p

pub assign : (x : Name) {ss : List Selector} {v : Expr} {bs : List Behind} {a : Part} → Are behind ss bs → Is part v a → Is kind_told (st.Assign (record { name = x; selectors = ss }) v) (λ p w. aim x bs p ++ a.standing p)
assign x {ss = ss} {v = v} h k = record {
  same = (ap kind_told (sym (st.rolls-Assign (record { name = x; selectors = ss }) v)) ∙ fold-roll-StmtKind Placed Placed Told kind_step branch_step stmt_step (StmtKind-F.Assign (record { name = x; selectors = ss }) v))
      ∙ both {C = Placed} (λ (bs : List Behind) (a : Part) p w. aim x bs p ++ a.standing p) h.same k.same;
}

pub update : (x : Name) {ss : List Selector} (o : BinaryOp) {v : Expr} {bs : List Behind} {a : Part} → Are behind ss bs → Is part v a → Is kind_told (st.Update (record { name = x; selectors = ss }) o v) (λ p w. aim x bs p ++ a.standing p)
update x {ss = ss} o {v = v} h k = record {
  same = (ap kind_told (sym (st.rolls-Update (record { name = x; selectors = ss }) o v)) ∙ fold-roll-StmtKind Placed Placed Told kind_step branch_step stmt_step (StmtKind-F.Update (record { name = x; selectors = ss }) o v))
      ∙ both {C = Placed} (λ (bs : List Behind) (a : Part) p w. aim x bs p ++ a.standing p) h.same k.same;
}

pub take : (x : Name) (end : FromEnd) (y : Name) {ss : List Selector} {bs : List Behind} → Are behind ss bs → Is kind_told (st.Take x end (record { name = y; selectors = ss })) (λ p w. named x p ++ aim y bs p)
take x end y {ss = ss} h = record {
  same = (ap kind_told (sym (st.rolls-Take x end (record { name = y; selectors = ss }))) ∙ fold-roll-StmtKind Placed Placed Told kind_step branch_step stmt_step (StmtKind-F.Take x end (record { name = y; selectors = ss })))
      ∙ ap {B = Placed} (λ (bs : List Behind) p w. named x p ++ aim y bs p) h.same;
}

-- an `if` without `else`
pub if_then : {b : Branch} {t : Placed} → Is branch_told b t → Is kind_told (st.If b [] None) (λ p w. t p w ++ [])
if_then {b = b} h = record {
  same = (ap kind_told (sym (st.rolls-If b [] None)) ∙ fold-roll-StmtKind Placed Placed Told kind_step branch_step stmt_step (StmtKind-F.If b [] None))
      ∙ ap {B = Placed} (λ (t : Placed) p w. t p w ++ []) h.same;
}

-- a `for` without a condition
pub for_all : {is : List Iter} {body : List Stmt} {ts : List Turn} {us : List Told} → Are turn is ts → Are stmt_told body us → Is kind_told (st.For is None body) (λ p w. ordinary_turns ts p ++ all_told us (in_a_loop w))
for_all {is = is} {body = body} h k = record {
  same = (ap kind_told (sym (st.rolls-For is None body)) ∙ fold-roll-StmtKind Placed Placed Told kind_step branch_step stmt_step (StmtKind-F.For is None body))
      ∙ both {C = Placed} (λ (ts : List Turn) (us : List Told) p w. ordinary_turns ts p ++ all_told us (in_a_loop w)) h.same k.same;
}

pub while : {c : Expr} {body : List Stmt} {a : Part} {us : List Told} → Is part c a → Are stmt_told body us → Is kind_told (st.While c body) (λ p w. a.standing p ++ all_told us (in_a_loop w))
while {c = c} {body = body} h k = record {
  same = (ap kind_told (sym (st.rolls-While c body)) ∙ fold-roll-StmtKind Placed Placed Told kind_step branch_step stmt_step (StmtKind-F.While c body))
      ∙ both {C = Placed} (λ (a : Part) (us : List Told) p w. a.standing p ++ all_told us (in_a_loop w)) h.same k.same;
}

pub print : {xs : List Expr} {ps : List Part} → Are part xs ps → Is kind_told (st.Print xs) (λ p w. all_parts ps p)
print {xs = xs} h = record {
  same = (ap kind_told (sym (st.rolls-Print xs)) ∙ fold-roll-StmtKind Placed Placed Told kind_step branch_step stmt_step (StmtKind-F.Print xs))
      ∙ ap {B = Placed} (λ (ps : List Part) p w. all_parts ps p) h.same;
}

pub read : (xs : List Name) → Is kind_told (st.Read xs) (λ p w. all_named xs p)
read xs = record {
  same = ap kind_told (sym (st.rolls-Read xs)) ∙ fold-roll-StmtKind Placed Placed Told kind_step branch_step stmt_step (StmtKind-F.Read xs);
}

-- ---- modes

abbrev Pending : Type 0
Pending = Option Attribute → Written

-- a mode without its attribute
abbrev pub pending : Core → Pending
pending = fold-Core Pending Written core_step mode_step

pub mode : (line : ℕ) (a : Option Attribute) {c : Core} {w : Pending} → Is pending c w → Is written (roll-WrittenMode (record { line = line; attribute = a; core = c })) (w a)
mode line a {c = c} h = record {
  same = fold-roll-WrittenMode Pending Written core_step mode_step (record { line = line; attribute = a; core = c }) ∙ ap (λ (w : Pending). w a) h.same;
}

pub int : Is pending co.Int Simple
int = record { same = ap pending (sym co.rolls-Int) ∙ fold-roll-Core Pending Written core_step mode_step Core-F.Int }

pub element : (line : ℕ) (b : Name) → Is pending (co.Elmt line b) (λ a. Element a line b)
element line b = record { same = ap pending (sym (co.rolls-Elmt line b)) ∙ fold-roll-Core Pending Written core_step mode_step (Core-F.Elmt line b) }

pub set_of : {m : WrittenMode} {w : Written} → Is written m w → Is pending (co.Set m) (λ a. Set a w)
set_of {m = m} h = record {
  same = (ap pending (sym (co.rolls-Set m)) ∙ fold-roll-Core Pending Written core_step mode_step (Core-F.Set m)) ∙ ap {B = Pending} (λ (w : Written) a. Set a w) h.same;
}

pub map_of : {d r : WrittenMode} {v w : Written} → Is written d v → Is written r w → Is pending (co.Mmap d r) (λ a. Mmap a v w)
map_of {d = d} {r = r} h k = record {
  same = (ap pending (sym (co.rolls-Mmap d r)) ∙ fold-roll-Core Pending Written core_step mode_step (Core-F.Mmap d r))
      ∙ both {C = Pending} (λ (v w : Written) a. Mmap a v w) h.same k.same;
}
