use Rattle.std.proofs.Common.{ℕ, List, [], ap, ◌∙◌}
use Rattle.setl_tree.specs.Canonical.{canonical}
use Rattle.setl_show.specs.Text.{with_tokens}
use Rattle.setl_show.proofs.Written.{written}
use Rattle.setl_show.proofs.show.Goals as goal

pub returns : goal.returns
returns c =
    let toks = canonical c.args.t.now in
    c.into_bytes.ensures ∙ c.in_ok-program.ensures ∙ ap (λ (b : List ℕ). with_tokens b toks) c.new-to.ensures ∙ written [] toks
