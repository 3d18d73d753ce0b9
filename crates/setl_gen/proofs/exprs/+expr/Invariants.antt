use Rattle.std.proofs.Common.{◌≡◌, ℕ, ◌+◌, ◌*◌, List, [], ◌∷◌, drop, map}
use Rattle.setl_program.specs.declared.expr.Argument.TheShapes.{weighed-Expr-Former-3}
use Rattle.setl_program.proofs.expr.Expr.TheLaws as expr
use Rattle.setl_program.proofs.expr.Iterator.TheLaws as iterator
use denote.Param.Weighed.{most}
use Rattle.setl_program.specs.code.Plain.{plain_link, plain_exprs, plain_iterators, plain_arguments}
use Rattle.setl_program.specs.Lists.{chained}
use Rattle.setl_code.specs.Generated as code
use Rattle.setl_gen_emitter.specs.Emitted.{Emitted, held, after}
use Rattle.setl_gen.specs.Heads.{CodeGoesOn, opened_from, opened}
use Rattle.setl_gen.proofs.exprs.+expr.Given as goal

abbrev pub invariant-exprs-loop-e : goal.invariant-exprs-loop-e
invariant-exprs-loop-e l = after (code.exprs l.line (plain_exprs (drop l.e-index l.es))) (held l.emitter) ≡ after (code.exprs l.line (plain_exprs l.es)) (held l.initial.emitter)

abbrev pub invariant-arguments-loop-x : goal.invariant-arguments-loop-x
invariant-arguments-loop-x l = after (code.arguments l.line (plain_arguments (drop l.x-index l.all))) (held l.emitter) ≡ after (code.arguments l.line (plain_arguments l.all)) (held l.initial.emitter)

abbrev pub invariant-iterators-loop-i : goal.invariant-iterators-loop-i
invariant-iterators-loop-i l = opened_from l.first l.line (plain_iterators (drop l.i-index l.is)) l.at (held l.emitter) ≡ opened l.line (plain_iterators l.is) (held l.initial.emitter)

abbrev pub invariant-links-loop-l : goal.invariant-links-loop-l
invariant-links-loop-l l =
    (u : Emitted) → CodeGoesOn l.line (λ e. chained e (map plain_link (drop l.l-index l.ls))) (held l.emitter) u
    → CodeGoesOn l.line (λ e. chained e (map plain_link l.ls)) (held l.initial.emitter) u

-- ---- the walk ends

-- the largest of some depths, and for equal ones the order of the calls
abbrev by : List ℕ → ℕ → ℕ
by depths rank = 8 * most (λ n. n) depths + rank

abbrev pub decreases-expr : goal.decreases-expr
decreases-expr l = by (goal.size-expr l ∷ []) 0

abbrev pub decreases-exprs : goal.decreases-exprs
decreases-exprs l = by (goal.size-exprs l ∷ []) 1

abbrev pub decreases-apply : goal.decreases-apply
decreases-apply l = by (goal.size-apply l ∷ []) 2

abbrev pub decreases-links : goal.decreases-links
decreases-links l = by (goal.size-links l ∷ []) 1

abbrev pub decreases-link : goal.decreases-link
decreases-link l = by (goal.size-link l ∷ []) 0

abbrev pub decreases-binary : goal.decreases-binary
decreases-binary l = by (goal.size-binary l ∷ []) 1

abbrev pub decreases-connect : goal.decreases-connect
decreases-connect l = by (goal.size-connect l ∷ []) 1

abbrev pub decreases-head : goal.decreases-head
decreases-head l = by (goal.size-head l ∷ []) 0

abbrev pub decreases-iterators : goal.decreases-iterators
decreases-iterators l = by (goal.size-iterators l ∷ []) 1

abbrev pub decreases-condition : goal.decreases-condition
decreases-condition l = by (goal.size-condition l ∷ []) 2

abbrev pub decreases-tested : goal.decreases-tested
decreases-tested l = by (goal.size-tested l ∷ []) 1

abbrev pub decreases-argument : goal.decreases-argument
decreases-argument l = by (goal.size-argument l ∷ []) 0

abbrev pub decreases-arguments : goal.decreases-arguments
decreases-arguments l = by (goal.size-arguments l ∷ []) 1

abbrev pub decreases-call : goal.decreases-call
decreases-call l = by (goal.size-call l ∷ []) 2

abbrev pub decreases-chain : goal.decreases-chain
decreases-chain l = by (goal.size-chain l ∷ expr.the_size l.first.now ∷ []) 2

abbrev pub decreases-choose : goal.decreases-choose
decreases-choose l = by (goal.size-choose l ∷ expr.the_size l.a.now ∷ expr.the_size l.b.now ∷ []) 1

abbrev pub decreases-former : goal.decreases-former
decreases-former l = by (goal.size-former l ∷ most iterator.the_size l.is.now ∷ weighed-Expr-Former-3.weight _ expr.the_size l.t.now ∷ []) 3

abbrev pub decreases-selection : goal.decreases-selection
decreases-selection l = by (goal.size-selection l ∷ expr.the_size l.c.now ∷ []) 2

abbrev pub decreases-quantified : goal.decreases-quantified
decreases-quantified l = by (goal.size-quantified l ∷ expr.the_size l.c.now ∷ []) 2
