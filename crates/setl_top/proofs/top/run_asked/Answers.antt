use Rattle.std.proofs.Common.{◌≡◌, ◌∙◌, true, map, refl, sym, true≢false}
use Rattle.setl_top_words.specs.code.Commands.{options_now}
use Rattle.setl_top_words.specs.Words.{Run}
use Rattle.setl_top.specs.Watching.{IsThere}
use Rattle.setl_top.proofs.Ends.{no_watcher_ends}
use Rattle.setl_top.proofs.top.run_asked.Goals as goal

pub returns-then-not-keep_asked-clause-headline : goal.returns-then-not-keep_asked-clause-headline
returns-then-not-keep_asked-clause-headline g c = λ words s.
    no_watcher_ends c.one_command.ensures words _ _ (Run c.args.kind (options_now c.args.asked) c.args.name.now) s (λ there. true≢false (sym (c.keep_asked.ensures.there.1 there) ∙ c.if-not-keep_asked.true)) refl (record { input = refl; output = refl }) _ c.tell.ensures.told

pub returns : goal.returns
returns g c =
    let handed = map (λ w. (goal.Watcher-dyn g (w.vtable, w.value)).watch w.value) c.args.watchers.items in
    let kept : c.keep_asked.result ≡ true = c.if-not-keep_asked.false in
    let there : IsThere c.args.asked.watch handed = c.keep_asked.ensures.there.0 kept in
    record {
      headline = λ words s. c.run_file.ensures.headline words handed s there c.keep_asked.ensures.kept;
      input = λ words s. c.run_file.ensures.input words handed s there c.keep_asked.ensures.kept;
    }
