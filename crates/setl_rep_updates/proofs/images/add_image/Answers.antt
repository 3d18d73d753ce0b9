use Rattle.std.proofs.Common.{rules}
use Rattle.setl_rep_forms.specs.FormOf.{form}
use Rattle.setl_rep_updates.proofs.Adding.{at_some, first_added, more_added}
use Rattle.setl_rep_updates.proofs.images.add_image.Goals.{in-Some+in_ok-done-in-Some, in-None+in_ok-content-in-None+in_ok-put_content-in-None}
use Rattle.setl_rep_updates.proofs.images.add_image.Goals as goal

pub returns-clause-added : goal.returns-clause-added
returns-clause-added c = elim c.match-branch-2.branch [
  | in-Some+in_ok-done-in-Some w ↦
      let k = at_some _ c.in_ok-done.field-0 w.in-Some.done w.in-Some.is c.in_ok-done.ensures.changed in
      more_added _ _ _ _ _ _ _ c.handle-number.result.block (form k.before) (form k.after) (search rules) (search rules) k.was (search rules) c.learn.ensures c.learn-2.ensures (search rules)
  | in-None+in_ok-content-in-None+in_ok-put_content-in-None w ↦
      first_added _ _ _ _ _ _ _ c.handle-number.result.block (form w.in_ok-content-in-None.content) (search rules) (search rules) w.in_ok-content-in-None.ensures.over w.in_ok-content-in-None.ensures.stands w.in_ok-content-in-None.ensures.form c.learn.ensures c.learn-2.ensures (search rules) (search rules)
]
