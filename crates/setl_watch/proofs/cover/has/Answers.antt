use Rattle.std.proofs.Common.{◌≡◌, ◌∙◌, ◌<◌, ◌≤◌, length, nat_eq, slice_index_or, sym, subst}
use Rattle.std.proofs.lemmas.Bool.{le-ltb}
use Rattle.setl_watch.specs.Covers.{has}
use Rattle.setl_watch.proofs.Counting.{has_at, has_none}
use Rattle.setl_watch.proofs.cover.has.Goals as goal

pub returns-then-at-counts-clause-same : goal.returns-then-at-counts-clause-same
returns-then-at-counts-clause-same c =
    let cs = c.args.counts.now in
    subst (λ n. nat_eq (slice_index_or cs n (0, 0)).0 c.args.line ≡ has c.args.line cs) (sym c.requires) (has_at c.args.line cs (0, 0) (subst (λ n. n < length cs) c.requires c.if-at-counts.true))

pub returns-else-at-counts-clause-same : goal.returns-else-at-counts-clause-same
returns-else-at-counts-clause-same c =
    let cs = c.args.counts.now in
    le-ltb c.args.at (length cs) c.if-at-counts.false ∙ sym (has_none c.args.line cs (subst (λ n. length cs ≤ n) c.requires c.if-at-counts.false))
