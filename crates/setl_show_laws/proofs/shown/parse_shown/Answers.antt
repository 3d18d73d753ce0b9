use Rattle.setl_show_laws.proofs.Parsed.{parsed}
use Rattle.setl_show_laws.proofs.shown.parse_shown.Goals as goal

pub returns : goal.returns
returns c = λ l tree h s.
    let laws = c.shown_text_is_read_again.ensures in
    parsed c.args.list.now tree c.parse.result
    (laws.derives l c.args.list.now tree h s)
    (λ other derived. laws.no_other l c.args.list.now tree other h s (200, derived))
    c.parse.ensures.derives
    c.parse.ensures.fault
