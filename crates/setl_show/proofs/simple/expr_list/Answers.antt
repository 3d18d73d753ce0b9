use Rattle.std.proofs.Common.{◌≡◌, List, subst, OnOk}
use Rattle.setl_tree.specs.Tokens.{Tokens}
use Rattle.setl_tree.specs.Canonical.{with_commas}
use Rattle.setl_show.specs.Text.{with_tokens}
use Rattle.setl_show.proofs.Parts.{tokens_map}
use Rattle.setl_show.proofs.simple.expr_list.Goals as goal

pub returns : goal.returns
returns c = subst (λ (z : List Tokens). OnOk c.exprs.result (c.exprs.new.to ≡ with_tokens c.args.to.now (with_commas z))) (tokens_map c.args.xs.now) c.exprs.ensures
