-- Elaboration, step by step.
use Rattle.std.proofs.Common.{◌≡◌, ◌<◌, ◌≤◌, ◌+◌, ◌∙◌, ℕ, suc, List, [], ◌∷◌, ◌++◌, map, drop, length, get_or, Some, refl, sym, ap, append_assoc, add-one, drop-cons}
use Rattle.std.proofs.lemmas.List.{append-nil, drop_all}
use Rattle.setl_tree.specs.declared.expr.BinaryOp.{BinaryOp}
use Rattle.setl_tree.specs.declared.expr.Expr.{Expr as ExprTree, fold-roll-Expr}
use Rattle.setl_tree.specs.declared.expr.Expr.TheOpen.{Expr-F}
use Rattle.setl_tree.specs.declared.expr.Expr.TheVariants as tree
use Rattle.setl_tree.specs.declared.expr.Iter.{Iter}
use Rattle.setl_tree.specs.declared.tree.Param.{Param}
use Rattle.setl_names.specs.Names.{Name, with_names}
use Rattle.setl_program.specs.Program as plain
use Rattle.setl_program.specs.Numbered.{Numbered}
use Rattle.setl_program.specs.Scope.{Scope, in_former}
use Rattle.setl_program.specs.Expressions.{Part, Inside, Turn, Behind, expr_step, inner_step, iter_step, selector_step, part_of, term_of, turn_of, chain, arguments, own_iterators}
use Rattle.setl_program_elaborate.specs.Elaborators.{made, past, puts, inside}
use Rattle.setl_program_elaborate.specs.declared.elaborator.Elaborator.{Elaborator}

-- ---- inside a former

-- what is made inside a former, and the elaborator behind it
pub within_both : {B : Type 0} (f : Elaborator → B × Elaborator) (m : ℕ) (names : List Name) (b : B) (w0 w1 w2 : Elaborator) → w1 ≡ inside m names w0 → (b, w2) ≡ f w1 → (b, w2) ≡ f (inside m names w0)
within_both f m names b w0 w1 w2 e1 e2 = e2 ∙ ap f e1

pub within : {B : Type 0} (f : Elaborator → B × Elaborator) (m : ℕ) (names : List Name) (b : B) (w0 w1 w2 : Elaborator) → w1 ≡ inside m names w0 → (b, w2) ≡ f w1 → w2 ≡ (f (inside m names w0)).1
within {B = B} f m names b w0 w1 w2 e1 e2 = ap (λ (r : B × Elaborator). r.1) (within_both f m names b w0 w1 w2 e1 e2)

-- the same where the former is left again
pub left_with : {B : Type 0} (f : Elaborator → B × Elaborator) (m : ℕ) (names : List Name) (b : B) (w0 w1 w2 w3 v : Elaborator) → w1 ≡ inside m names w0 → (b, w2) ≡ f w1 →
    (w2 ≡ (f (inside m names w0)).1 → w3 ≡ v) → ◌≡◌ {A = B × Elaborator} (b, w3) ((f (inside m names w0)).0, v)
left_with {B = B} f m names b w0 w1 w2 w3 v e1 e2 left =
    let outside : B × Elaborator → B × Elaborator = λ r. (r.0, w3) in
    let before : Elaborator → B × Elaborator = λ w. ((f (inside m names w0)).0, w) in
    ap outside (within_both f m names b w0 w1 w2 e1 e2) ∙ ap before (left (within f m names b w0 w1 w2 e1 e2))

-- the scope is left again
pub left_again : (old new : Elaborator) (m : ℕ) (names result : List Name) (w : Elaborator) → new.alloc ≡ old.alloc → new.opened ≡ old.opened →
    ((k : ℕ) (ns : List Name) (s : Scope) → old.scope ≡ in_former k ns s → (result ≡ ns) × (new.scope ≡ s)) →
    old ≡ inside m names w → (result ≡ names) × (new ≡ w)
left_again old new m names result w ea eo undone e =
    let back : (result ≡ names) × (new.scope ≡ w.scope) = undone m names w.scope (ap (λ (v : Elaborator). v.scope) e) in (
      back.0,
      ap (λ (s : Scope). record new { scope = s }) back.1
          ∙ ap (λ a. record { alloc = a; scope = w.scope; opened = new.opened }) (ea ∙ ap (λ (v : Elaborator). v.alloc) e)
          ∙ ap (λ (n : ℕ). record { alloc = w.alloc; scope = w.scope; opened = n }) (eo ∙ ap (λ (v : Elaborator). v.opened) e),
    )

-- ---- chains

abbrev operand : BinaryOp × ExprTree → BinaryOp × Part
operand x = (x.0, part_of x.1)

is_chain : (x first : ExprTree) (others : List (BinaryOp × ExprTree)) → x ≡ tree.Chain first others → part_of x ≡ expr_step (Expr-F.Chain (part_of first) (map operand others))
is_chain x first others h = ap part_of (h ∙ sym (tree.rolls-Chain first others)) ∙ fold-roll-Expr Part Inside Turn Behind expr_step inner_step iter_step selector_step (Expr-F.Chain first others)

-- a chain by the expressions and operators that are looked at
pub chain_walked : (x first v : ExprTree) (others rest : List (BinaryOp × ExprTree)) → x ≡ tree.Chain first others → v ≡ first → rest ≡ others →
    chain (part_of v) (map operand rest) ≡ term_of x
chain_walked x first v others rest h ev er =
    ap (λ (z : List (BinaryOp × ExprTree)). chain (part_of v) (map operand z)) er
    ∙ ap (λ (z : ExprTree). chain (part_of z) (map operand others)) ev
    ∙ ap (λ (p : Part). p.term) (sym (is_chain x first others h))

-- ---- arguments

abbrev Putting : Type 0
Putting = plain.Arguments → plain.Arguments

no_arguments : (ps : List Param) (s : Scope) (n : ℕ) → arguments ps [] s n ≡ ([], n)
no_arguments [] s n = refl
no_arguments (p ∷ ps) s n = refl

-- all expressions were looked at
pub arguments_done : (rest : List Param) (xs : List ExprTree) (i : ℕ) (all : List Putting) (w : Elaborator) (whole : List Putting × Elaborator) → length xs ≤ i →
    (all ++ made (arguments rest (map part_of (drop i xs))) w, past (arguments rest (map part_of (drop i xs))) w) ≡ whole → (all, w) ≡ whole
arguments_done rest xs i all w whole h inv =
    sym
    (ap (λ (zs : List ExprTree). (all ++ made (arguments rest (map part_of zs)) w, past (arguments rest (map part_of zs)) w)) (drop_all i xs h)
    ∙ ap (λ (r : List Putting × ℕ). (all ++ r.0, record { alloc = w.alloc; scope = w.scope; opened = r.1 })) (no_arguments rest w.scope w.opened)
    ∙ ap (λ (z : List Putting). (z, w)) (append-nil all))
    ∙ inv

-- ---- the iterators of a former

abbrev Range : Type 0
Range = plain.Binding × plain.Exprs

split : (turns : List Iter) (i : ℕ) (x : Iter) → i < length turns → x ≡ get_or turns i x → drop i turns ≡ x ∷ drop (i + 1) turns
split turns i x h is = drop-cons turns i x h ∙ ap (λ (z : Iter). z ∷ drop (suc i) turns) (sym is) ∙ ap (λ n. x ∷ drop n turns) (sym (add-one i))

-- an iterator inside the former, where these names are seen
abbrev inner_turn : ℕ → List Name → Iter → Scope → Numbered Range
inner_turn m seen x s = (turn_of x).iterator (Some m) (in_former m seen s)

pub turn_done : (m : ℕ) (turns : List Iter) (i : ℕ) (x : Iter) (seen next : List Name) (before after : List Range) (w v : Elaborator) (whole : List Range × Elaborator) → i < length turns → x ≡ get_or turns i x →
    (after, v) ≡ puts before (inner_turn m seen x) w → next ≡ with_names seen (turn_of x).names →
    (before ++ made (own_iterators m seen (map turn_of (drop i turns))) w, past (own_iterators m seen (map turn_of (drop i turns))) w) ≡ whole →
    (after ++ made (own_iterators m next (map turn_of (drop (i + 1) turns))) v, past (own_iterators m next (map turn_of (drop (i + 1) turns))) v) ≡ whole
turn_done m turns i x seen next before after w v whole h is ea en inv =
    let rest : List Turn = map turn_of (drop (i + 1) turns) in
    let first : Range = made (inner_turn m seen x) w in
    let behind : Elaborator = past (inner_turn m seen x) w in
    let later : List Name = with_names seen (turn_of x).names in
    ap (λ (z : List Range × Elaborator). (z.0 ++ made (own_iterators m next rest) z.1, past (own_iterators m next rest) z.1)) ea
    ∙ ap (λ (z : List Name). ((before ++ first ∷ []) ++ made (own_iterators m z rest) behind, past (own_iterators m z rest) behind)) en
    ∙ ap (λ (z : List Range). (z, past (own_iterators m later rest) behind)) (append_assoc before (first ∷ []) (made (own_iterators m later rest) behind))
    ∙ ap (λ (z : List Iter). (before ++ made (own_iterators m seen (map turn_of z)) w, past (own_iterators m seen (map turn_of z)) w)) (sym (split turns i x h is))
    ∙ inv
