use Rattle.setl_value.specs.code.DatumOf.{part}
use Rattle.setl_text.proofs.Shallow.{placed_inside}
use Rattle.setl_text.proofs.place.place.Goals as goal

pub returns-in_ok-push-in-Some : goal.returns-in_ok-push-in-Some
returns-in_ok-push-in-Some c =
    placed_inside (part c.args.v) c.args.opened.now.items c.pop.new.self.items c.push.new.list.items c.in-Some.c c.in_ok-grown-in-Some.grown
    c.in-Some.ensures.items c.in_ok-push-in-Some.ensures.added c.in_ok-grown-in-Some.ensures c.requires.shallow c.requires.fits
