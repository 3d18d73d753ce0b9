use Rattle.std.proofs.Common.{◌≡◌, ℕ, ◌+◌, ◌*◌, List, [], ◌∷◌, ◌++◌, Option, drop, map}
use Rattle.setl_tree.specs.declared.expr.Expr.{Expr as ExprTree}
use Rattle.setl_tree.specs.declared.expr.Expr.TheShapes.{weighed-Inner-Range-1}
use Rattle.setl_tree.proofs.expr.Expr.TheLaws as expr
use Rattle.setl_tree.proofs.expr.Iter.TheLaws as iter
use denote.Param.Weighed.{most}
use Rattle.setl_program.specs.Expressions as spec
use Rattle.setl_program.specs.Expressions.{part_of, behind_of, turn_of}
use Rattle.setl_program.specs.code.Plain.{plain_expr, plain_iterator, plain_argument}
use Rattle.setl_program_elaborate.specs.Chains.{plain_chain}
use Rattle.setl_program_elaborate.specs.Elaborators.{made, past, does}
use Rattle.setl_program_elaborate.proofs.elaborator.Elaborator.+expressions.Given as goal

abbrev pub invariant-exprs-loop-x : goal.invariant-exprs-loop-x
invariant-exprs-loop-x l = (map plain_expr l.all ++ made (spec.terms (map part_of (drop l.x-index l.xs))) l.self, past (spec.terms (map part_of (drop l.x-index l.xs))) l.self) ≡ does (spec.terms (map part_of l.xs)) l.initial.self

abbrev pub invariant-chain-loop-op : goal.invariant-chain-loop-op
invariant-chain-loop-op l = does (spec.chain_on (plain_chain l.all) (map (λ x. (x.0, part_of x.1)) (drop l.op-index l.others))) l.self ≡ does (spec.chain (part_of l.first) (map (λ x. (x.0, part_of x.1)) l.others)) l.fn.self

abbrev pub invariant-selected-loop-selector : goal.invariant-selected-loop-selector
invariant-selected-loop-selector l = does (spec.selected (plain_chain l.all) (map behind_of (drop l.selector-index l.selectors))) l.self ≡ does (spec.selected (plain_chain l.initial.all) (map behind_of l.selectors)) l.initial.self

abbrev pub invariant-iterators-loop-turn : goal.invariant-iterators-loop-turn
invariant-iterators-loop-turn l = (map plain_iterator l.all ++ made (spec.iterators (map turn_of (drop l.turn-index l.turns))) l.self, past (spec.iterators (map turn_of (drop l.turn-index l.turns))) l.self) ≡ does (spec.iterators (map turn_of l.turns)) l.initial.self

abbrev pub invariant-own_iterators-loop-turn : goal.invariant-own_iterators-loop-turn
invariant-own_iterators-loop-turn l = (map plain_iterator l.all ++ made (spec.own_iterators l.number l.seen (map turn_of (drop l.turn-index l.turns))) l.self, past (spec.own_iterators l.number l.seen (map turn_of (drop l.turn-index l.turns))) l.self) ≡ does (spec.own_iterators l.number [] (map turn_of l.turns)) l.initial.self

abbrev pub invariant-arguments-loop-x : goal.invariant-arguments-loop-x
invariant-arguments-loop-x l = (map plain_argument l.all ++ made (spec.arguments l.left (map part_of (drop l.x-index l.xs))) l.self, past (spec.arguments l.left (map part_of (drop l.x-index l.xs))) l.self) ≡ does (spec.arguments l.parameters (map part_of l.xs)) l.initial.self

-- ---- the walk ends

-- the largest of some depths, and for equal ones the order of the calls
abbrev by : List ℕ → ℕ → ℕ
by depths rank = 8 * most (λ n. n) depths + rank

-- the depth of an expression, if there is one
abbrev inside : Option ExprTree → ℕ
inside = weighed-Inner-Range-1.weight _ expr.the_size

abbrev pub decreases-expr : goal.decreases-expr
decreases-expr l = 8 * goal.size-expr l

abbrev pub decreases-exprs : goal.decreases-exprs
decreases-exprs l = 8 * goal.size-exprs l + 1

abbrev pub decreases-optional : goal.decreases-optional
decreases-optional l = 8 * goal.size-optional l + 1

abbrev pub decreases-selected : goal.decreases-selected
decreases-selected l = 8 * goal.size-selected l + 1

abbrev pub decreases-applied : goal.decreases-applied
decreases-applied l = 8 * goal.size-applied l

abbrev pub decreases-at_list : goal.decreases-at_list
decreases-at_list l = 8 * goal.size-at_list l + 3

abbrev pub decreases-listed : goal.decreases-listed
decreases-listed l = 8 * goal.size-listed l + 2

abbrev pub decreases-name_selection : goal.decreases-name_selection
decreases-name_selection l = 8 * goal.size-name_selection l + 3

abbrev pub decreases-application : goal.decreases-application
decreases-application l = 8 * goal.size-application l + 5

abbrev pub decreases-call : goal.decreases-call
decreases-call l = 8 * goal.size-call l + 4

abbrev pub decreases-arguments : goal.decreases-arguments
decreases-arguments l = 8 * goal.size-arguments l + 3

abbrev pub decreases-argument : goal.decreases-argument
decreases-argument l = 8 * goal.size-argument l + 2

abbrev pub decreases-iterators : goal.decreases-iterators
decreases-iterators l = 8 * goal.size-iterators l + 1

abbrev pub decreases-own_iterator : goal.decreases-own_iterator
decreases-own_iterator l = 8 * goal.size-own_iterator l + 1

abbrev pub decreases-own_iterators : goal.decreases-own_iterators
decreases-own_iterators l = 8 * goal.size-own_iterators l + 2

abbrev pub decreases-iterator : goal.decreases-iterator
decreases-iterator l = 8 * goal.size-iterator l

abbrev pub decreases-inner : goal.decreases-inner
decreases-inner l = 8 * goal.size-inner l

abbrev pub decreases-expr_within : goal.decreases-expr_within
decreases-expr_within l = 8 * goal.size-expr_within l + 1

abbrev pub decreases-own_condition : goal.decreases-own_condition
decreases-own_condition l = 8 * goal.size-own_condition l + 2

abbrev pub decreases-bound_condition : goal.decreases-bound_condition
decreases-bound_condition l = 8 * goal.size-bound_condition l + 2

abbrev pub decreases-source : goal.decreases-source
decreases-source l = 8 * goal.size-source l + 2

abbrev pub decreases-inner_source : goal.decreases-inner_source
decreases-inner_source l = 8 * goal.size-inner_source l + 1

abbrev pub decreases-over : goal.decreases-over
decreases-over l = 8 * goal.size-over l + 3

abbrev pub decreases-choice : goal.decreases-choice
decreases-choice l = by (goal.size-choice l ∷ expr.the_size l.b.now ∷ expr.the_size l.c.now ∷ []) 1

abbrev pub decreases-chain : goal.decreases-chain
decreases-chain l = by (goal.size-chain l ∷ expr.the_size l.first.now ∷ []) 2

abbrev pub decreases-comparison : goal.decreases-comparison
decreases-comparison l = by (goal.size-comparison l ∷ expr.the_size l.b.now ∷ []) 1

abbrev pub decreases-selection : goal.decreases-selection
decreases-selection l = by (goal.size-selection l ∷ expr.the_size l.x.now ∷ []) 4

abbrev pub decreases-quantified : goal.decreases-quantified
decreases-quantified l = by (goal.size-quantified l ∷ expr.the_size l.x.now ∷ []) 2

abbrev pub decreases-bounds : goal.decreases-bounds
decreases-bounds l = by (goal.size-bounds l ∷ inside l.b.now ∷ expr.the_size l.c.now ∷ []) 2

abbrev pub decreases-former : goal.decreases-former
decreases-former l = by (goal.size-former l ∷ most iter.the_size l.turns.now ∷ inside l.condition.now ∷ []) 3

abbrev pub decreases-filter : goal.decreases-filter
decreases-filter l = by (goal.size-filter l ∷ expr.the_size l.condition.now ∷ []) 4
