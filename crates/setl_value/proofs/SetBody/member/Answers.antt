use Rattle.std.proofs.Common.{ap, ◌∙◌, sym, drop}
use Rattle.setl_value.specs.code.Body.{Members}
use Rattle.setl_value.specs.code.DatumOf.{datum}
use Rattle.setl_value.specs.code.Places.{rank}
use Rattle.setl_value_pages.specs.ListLaws.{front_of, nothing_of}
use Rattle.setl_value.proofs.SetBody.member.Goals as goal

pub returns-in-Some : goal.returns-in-Some
returns-in-Some c =
    let s = c.args.self.now in
    let at = c.members_from.ensures ∙ ap (λ b. drop (rank b c.args.c) (Members b)) (c.deref.ensures ∙ c.self.view_is) in
    sym (front_of (Members s) (rank s c.args.c) (datum c.in-Some.v.now) c.next.new.self (sym at ∙ c.in-Some.ensures.steps))

pub returns-in-None : goal.returns-in-None
returns-in-None c =
    let s = c.args.self.now in
    let at = c.members_from.ensures ∙ ap (λ b. drop (rank b c.args.c) (Members b)) (c.deref.ensures ∙ c.self.view_is) in
    sym (nothing_of (Members s) (rank s c.args.c) (sym at ∙ c.in-None.ensures.steps.0))
