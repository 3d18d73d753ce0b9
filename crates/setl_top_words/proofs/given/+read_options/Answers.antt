use Rattle.std.proofs.Common.{rules, map, string_bytes}
use Rattle.std.proofs.lemmas.Option.{IfSome_then}
use Rattle.setl_top_words.proofs.Order.{always, so_if_none, some_words, nowhere_else, nowhere_again, nowhere_on, leads_on}
use Rattle.setl_top_words.proofs.given.+read_options.Goals as goal

pub returns-in_err-option-clause-none : goal.returns-in_err-option-clause-none
returns-in_err-option-clause-none t c =
    always _ (nowhere_else c.args.given (map string_bytes c.args.words.now) (some_words string_bytes c.args.words.now (search rules)) c.in_err-option.ensures.none)

pub returns-in_err-given-clause-none : goal.returns-in_err-given-clause-none
returns-in_err-given-clause-none t c =
    let read = c.in_ok-option.ensures in
    always _ (nowhere_again c.args.given _ _ c.in_ok-option.option read.option read.in_range c.in_err-given.ensures.again)

pub returns-clause-read : goal.returns-clause-read
returns-clause-read t c =
    let read = c.in_ok-option.ensures in
    let next = c.in_ok-given.ensures.given in
    IfSome_then c.read_options.result c.read_options.ensures.read (λ all l. leads_on c.args.given c.in_ok-given.given _ _ c.in_ok-option.option all read.option read.in_range next.0 next.1 l)

pub returns-clause-none : goal.returns-clause-none
returns-clause-none t c =
    let read = c.in_ok-option.ensures in
    let next = c.in_ok-given.ensures.given in
    so_if_none c.read_options.result (nowhere_on c.args.given c.in_ok-given.given _ _ c.in_ok-option.option read.option read.in_range next.0) c.read_options.ensures.none
