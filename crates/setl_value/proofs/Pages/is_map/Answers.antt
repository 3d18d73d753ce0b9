use Rattle.std.proofs.Common.{ap, ◌∙◌, ◌==◌, map}
use Rattle.setl_value.proofs.Others.{none_counted}
use Rattle.setl_value_pages.specs.Pages.{joined}
use Rattle.setl_value.specs.code.Body.{Members}
use Rattle.setl_value.specs.code.DatumOf.{page}
use Rattle.setl_value.specs.Pairs.{is_map}
use Rattle.setl_value.proofs.Pages.is_map.Goals as goal

pub returns : goal.returns
returns c = ap (λ n. n == 0) c.self.invariant.no_pairs ∙ none_counted (joined (map page c.self.inside.list.items)) ∙ ap is_map (ap Members c.self.view_is)
