use Rattle.std.proofs.Common.{◌≡◌, ◌∙◌, ◌++◌, ℕ, List, length, take, drop, sym, ap, subst, arith}
use Rattle.std.proofs.Math.Seq.{take-append_seam}
use Rattle.std.specs.Prelude.{slice_get}
use Rattle.setl_code.specs.declared.code.Body.{Body}
use Rattle.setl_live.specs.Nodes.{BodyBecomes, refused_in}
use Rattle.setl_live.proofs.Bodies.{marked_may_run, marked_code}
use Rattle.setl_live.proofs.marking.marked_by.Goals as goal

-- a slice that was written as a whole
written_back : (n : ℕ) (xs ys : List Body) → n ≡ length xs → take n (xs ++ ys) ≡ xs
written_back n xs ys same = ap (λ (k : ℕ). take k (xs ++ ys)) same ∙ take-append_seam xs ys

becomes : (c : goal.After-from_vec) (n : ℕ) → BodyBecomes (refused_in c.args.table.now n) (slice_get c.args.code.bodies n) (slice_get c.from_vec.result n)
becomes c n =
    subst (λ (bs : List Body). BodyBecomes (refused_in c.args.table.now n) (slice_get c.args.code.bodies n) (slice_get bs n))
    (sym (c.from_vec.ensures ∙ written_back c.into_vec-bodies.result.len c.mark_bodies.new.bodies (drop (length c.mark_bodies.new.bodies) c.into_vec-bodies.result.items) (omega (arith, c.mark_bodies.ensures.sizes, c.deref_mut.ensures.len))))
    (subst (λ (bs : List Body). BodyBecomes (refused_in c.args.table.now n) (slice_get bs n) (slice_get c.mark_bodies.new.bodies n)) (c.deref_mut.ensures.value ∙ c.into_vec-bodies.ensures) (c.in_ok-mark_bodies.ensures.marked n))

pub returns-clause-may_run : goal.returns-clause-may_run
returns-clause-may_run c = marked_may_run c.args.code c.args.table.now c.from_vec.result c.requires (becomes c)

pub returns-clause-marked : goal.returns-clause-marked
returns-clause-marked c declared only tells = marked_code c.args.code c.args.table.now c.from_vec.result c.requires (becomes c) declared only tells
