use Rattle.std.proofs.Common.{ap, ◌∙◌, map, drop}
use Rattle.setl_value_pages.specs.Pages.{joined, rank_in}
use Rattle.setl_value.specs.code.Body.{Members}
use Rattle.setl_value.specs.code.DatumOf.{page}
use Rattle.setl_value.specs.code.Places.{rank}
use Rattle.setl_value.proofs.Pages.members_from.Goals as goal

pub returns : goal.returns
unfolding rank
returns c =
    c.members_behind.ensures ∙ ap (λ l. drop (rank_in (map page l) c.args.c.page c.args.c.index) (joined (map page l))) c.as_slice.ensures.value ∙ ap (λ b. drop (rank b c.args.c) (Members b)) c.self.view_is
