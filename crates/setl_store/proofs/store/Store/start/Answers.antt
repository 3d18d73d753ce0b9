use Rattle.std.proofs.Common.{◌≡◌, ◌∙◌, [], length, sym, ap, subst, arith}
use Rattle.std.specs.Prelude.{cond}
use Rattle.setl_code.specs.Plain.{plain_code}
use Rattle.setl_store_kept.specs.Kept.{KeptSound}
use Rattle.setl_store_slots.specs.Slots.{AreStanding}
use Rattle.setl_store.specs.Flat.{stands, marks_in, IsSound, WasSound}
use Rattle.setl_store.specs.Standing.{started}
use Rattle.setl_store.proofs.Entering.{starts, first_contents, first_slots}
use Rattle.setl_store.proofs.store.Store.start.Goals as goal
use Rattle.setl_store.proofs.store.Store.start.Goals.{In_ok-add_activation}

done : (c : In_ok-add_activation) → (stands c.args.code.now c.in_ok-instances.instances 0 c.add_activation.new.environment.now [] ≡ started (cond c.args.told c.args.bases 0) c.args.code.now) × IsSound (plain_code c.args.code.now) c.in_ok-instances.instances c.add_activation.new.environment.now × AreStanding c.in_ok-instances.instances c.add_activation.new.environment.now.slots
done c =
    let e0 = c.in_ok-environment.environment.now in
    let e1 = c.add_cleared.new.environment.now in
    let e2 = c.add_cleared-2.new.environment.now in
    let e3 = c.add_activation.new.environment.now in
    starts c.args.code.now c.in_ok-instances.instances e3 c.len-slots.result c.parameter_count.result c.name_count.result (cond c.args.told c.args.bases 0) c.requires c.in_ok-instances.ensures.1 c.len-slots.ensures c.parameter_count.ensures c.name_count.ensures
    (first_slots e0 e1 e2 e3 c.len-slots.result c.parameter_count.result c.name_count.result c.new-2.result.items c.in_ok-environment.ensures.now c.in_ok-add_cleared.ensures.slots c.in_ok-add_cleared-2.ensures.slots c.new-2.ensures.items c.in_ok-add_activation.ensures.slots)
    (first_contents e0 e1 e2 e3 (record { body = 0; from = 0; slots = c.len-slots.result; operands = 0 }) c.in_ok-environment.ensures.now c.in_ok-add_cleared.ensures.rest c.in_ok-add_cleared-2.ensures.rest c.in_ok-add_activation.ensures.rest)

none : (c : In_ok-add_activation) → c.add_activation.new.environment.kept ≡ []
none c = c.in_ok-add_activation.ensures.kept ∙ c.in_ok-add_cleared-2.ensures.kept ∙ c.in_ok-add_cleared.ensures.kept ∙ c.in_ok-environment.ensures.kept

pub invariant_of-result : goal.invariant_of-result
invariant_of-result c = (
  c.requires,
  (done c).1,
  record {
    standing = (done c).2;
    older = subst (KeptSound marks_in (WasSound (plain_code c.args.code.now)) c.in_ok-instances.instances) (sym (none c)) tt;
    cuts = λ i. (omega (arith, c.in_ok-instances.ensures.0 i, ap length (none c)));
    few = omega arith;
  },
)

pub returns : goal.returns
returns c = ap (stands c.args.code.now c.in_ok-instances.instances 0 c.add_activation.new.environment.now) (none c) ∙ (done c).0
