use Rattle.std.proofs.Common.{◌≡◌, ℕ, ◌+◌, ◌*◌, List, [], ◌∷◌, Option, drop, map}
use Rattle.setl_tree.specs.declared.expr.Expr.{Expr}
use Rattle.setl_tree.specs.declared.expr.Expr.TheShapes.{weighed-Inner-Range-1}
use Rattle.setl_tree.proofs.expr.Expr.TheLaws as expr
use Rattle.setl_tree.proofs.expr.Iter.TheLaws as iter
use denote.Param.Weighed.{most}
use Rattle.setl_names.specs.Occurrences as spec
use Rattle.setl_names_walk.specs.Walks.{here, after, with_own}
use Rattle.setl_names_walk.proofs.expressions.+standing.Given as goal

abbrev pub invariant-exprs-loop-x : goal.invariant-exprs-loop-x
invariant-exprs-loop-x l = after (spec.all_parts (map spec.part (drop l.x-index l.xs)) (here l.line l.walk)) l.walk ≡ after (spec.all_parts (map spec.part l.xs) (here l.line l.initial.walk)) l.initial.walk

abbrev pub invariant-operands-loop-x : goal.invariant-operands-loop-x
invariant-operands-loop-x l = after (spec.operands (map (λ x. (x.0, spec.part x.1)) (drop l.x-index l.others)) (here l.line l.walk)) l.walk ≡ after (spec.operands (map (λ x. (x.0, spec.part x.1)) l.others) (here l.line l.initial.walk)) l.initial.walk

abbrev pub invariant-selectors-loop-x : goal.invariant-selectors-loop-x
invariant-selectors-loop-x l = after (spec.all_behind (map spec.behind (drop l.x-index l.ss)) (here l.line l.walk)) l.walk ≡ after (spec.all_behind (map spec.behind l.ss) (here l.line l.initial.walk)) l.initial.walk

abbrev pub invariant-variable_turns-loop-x : goal.invariant-variable_turns-loop-x
invariant-variable_turns-loop-x l = after (spec.variable_turns (map spec.turn (drop l.x-index l.turns)) (here l.line l.walk)) l.walk ≡ after (spec.variable_turns (map spec.turn l.turns) (here l.line l.initial.walk)) l.initial.walk

abbrev pub invariant-own_turns-loop-x : goal.invariant-own_turns-loop-x
invariant-own_turns-loop-x l =
    after (spec.own_turns (map spec.turn (drop l.x-index l.turns)) (here l.line l.walk)) (with_own (spec.names_of_turns (map spec.turn (drop l.x-index l.turns))) l.walk)
    ≡ after (spec.own_turns (map spec.turn l.turns) (here l.line l.initial.walk)) (with_own (spec.names_of_turns (map spec.turn l.turns)) l.initial.walk)

-- ---- the walk ends

-- the largest of some depths, and for equal ones the order of the calls
abbrev by : List ℕ → ℕ → ℕ
by depths rank = 8 * most (λ n. n) depths + rank

-- the depth of an expression, if there is one
abbrev inside : Option Expr → ℕ
inside = weighed-Inner-Range-1.weight _ expr.the_size

abbrev pub decreases-expr : goal.decreases-expr
decreases-expr l = by (goal.size-expr l ∷ []) 0

abbrev pub decreases-exprs : goal.decreases-exprs
decreases-exprs l = by (goal.size-exprs l ∷ []) 1

abbrev pub decreases-operands : goal.decreases-operands
decreases-operands l = by (goal.size-operands l ∷ []) 1

abbrev pub decreases-optional : goal.decreases-optional
decreases-optional l = by (goal.size-optional l ∷ []) 1

abbrev pub decreases-name_selected : goal.decreases-name_selected
decreases-name_selected l = by (goal.size-name_selected l ∷ []) 3

abbrev pub decreases-applied : goal.decreases-applied
decreases-applied l = by (goal.size-applied l ∷ []) 2

abbrev pub decreases-quantified_turns : goal.decreases-quantified_turns
decreases-quantified_turns l = by (goal.size-quantified_turns l ∷ []) 3

abbrev pub decreases-ordinary_turns : goal.decreases-ordinary_turns
decreases-ordinary_turns l = by (goal.size-ordinary_turns l ∷ []) 2

abbrev pub decreases-variable_turns : goal.decreases-variable_turns
decreases-variable_turns l = by (goal.size-variable_turns l ∷ []) 1

abbrev pub decreases-iterator : goal.decreases-iterator
decreases-iterator l = by (goal.size-iterator l ∷ []) 0

abbrev pub decreases-own_turns : goal.decreases-own_turns
decreases-own_turns l = by (goal.size-own_turns l ∷ []) 1

abbrev pub decreases-inner : goal.decreases-inner
decreases-inner l = by (goal.size-inner l ∷ []) 0

abbrev pub decreases-selectors : goal.decreases-selectors
decreases-selectors l = by (goal.size-selectors l ∷ []) 1

abbrev pub decreases-selector : goal.decreases-selector
decreases-selector l = by (goal.size-selector l ∷ []) 0

abbrev pub decreases-loose_list : goal.decreases-loose_list
decreases-loose_list l = by (goal.size-loose_list l ∷ []) 2

abbrev pub decreases-choice : goal.decreases-choice
decreases-choice l = by (goal.size-choice l ∷ expr.the_size l.b.now ∷ expr.the_size l.c.now ∷ []) 2

abbrev pub decreases-comparison : goal.decreases-comparison
decreases-comparison l = by (goal.size-comparison l ∷ expr.the_size l.b.now ∷ []) 1

abbrev pub decreases-chain : goal.decreases-chain
decreases-chain l = by (goal.size-chain l ∷ expr.the_size l.first.now ∷ []) 2

abbrev pub decreases-selection : goal.decreases-selection
decreases-selection l = by (goal.size-selection l ∷ expr.the_size l.x.now ∷ []) 4

abbrev pub decreases-quantified : goal.decreases-quantified
decreases-quantified l = by (goal.size-quantified l ∷ expr.the_size l.x.now ∷ []) 4

abbrev pub decreases-range : goal.decreases-range
decreases-range l = by (goal.size-range l ∷ inside l.b.now ∷ expr.the_size l.c.now ∷ []) 2

abbrev pub decreases-former : goal.decreases-former
decreases-former l = by (goal.size-former l ∷ most iter.the_size l.turns.now ∷ inside l.condition.now ∷ []) 2

abbrev pub decreases-filter : goal.decreases-filter
decreases-filter l = by (goal.size-filter l ∷ expr.the_size l.condition.now ∷ []) 1
