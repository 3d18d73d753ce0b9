use Rattle.std.proofs.Common.{◌≡◌, ◌∙◌, cond, ap, sym, subst}
use Rattle.std.specs.Prelude.{IsTrue}
use Rattle.std.specs.Option.{option_map_or}
use Rattle.std.specs.FinSet as set
use Rattle.std.specs.FinMap as map
use Rattle.setl_local.specs.Place.{Place, place_cmp}
use Rattle.setl_store_environment.specs.Places.{FieldsNow, with_bit, with_content}
use Rattle.setl_store_environment.proofs.FieldChanges.{bit_put, bit_restored, content_put, content_restored}
use Rattle.setl_store_environment.proofs.fields.put_field.Goals as goal
use Rattle.setl_store_environment.proofs.fields.put_field.Goals.{After-set_content}

abbrev fields : {F : Type 0} → set.FinSet place_cmp → map.FinMap place_cmp F → FieldsNow F
fields bits contents = record { bits = bits; contents = contents }

bits : (g : _) (c : After-set_content g) → c.set_content.new.fields.bits ≡ cond c.args.field.bit (set.insert (set.remove c.args.fields.now.bits (c.args.field.object, c.args.field.block)) (c.args.field.object, c.args.field.block)) (set.remove c.args.fields.now.bits (c.args.field.object, c.args.field.block))
bits g c =
    let p : Place = (c.args.field.object, c.args.field.block) in
    c.set_content.ensures.bits ∙ c.set_bit.ensures.bits ∙ ap (λ b. cond c.args.field.bit (set.insert b p) b) c.clear-old_content.ensures.bit

contents : (g : _) (c : After-set_content g) → c.set_content.new.fields.contents ≡ option_map_or (map.insert (map.remove c.args.fields.now.contents (c.args.field.object, c.args.field.block)) (c.args.field.object, c.args.field.block)) c.args.field.content (map.remove c.args.fields.now.contents (c.args.field.object, c.args.field.block))
contents g c =
    let p : Place = (c.args.field.object, c.args.field.block) in
    c.set_content.ensures.contents ∙ ap (λ m. option_map_or (map.insert m p) c.args.field.content m) (c.set_bit.ensures.contents ∙ c.clear-old_content.ensures.content)

pub returns-clause-put : goal.returns-clause-put
returns-clause-put g c =
    let p : Place = (c.args.field.object, c.args.field.block) in
    ap (λ b. fields b c.set_content.new.fields.contents) (bits g c ∙ bit_put c.args.fields.now.bits p c.args.field.bit)
    ∙ ap (fields (with_bit c.args.fields.now.bits p c.args.field.bit)) (contents g c ∙ content_put c.args.fields.now.contents p c.args.field.content)

pub returns-clause-back : goal.returns-clause-back
returns-clause-back g c =
    let p : Place = (c.args.field.object, c.args.field.block) in
    let room = c.set_content.ensures.room ∙ c.set_bit.ensures.room ∙ c.clear-old_content.ensures.room in
    record {
      room = room;
      undone =
          ap (λ b. fields (with_bit c.set_content.new.fields.bits p b) (with_content c.set_content.new.fields.contents p c.clear-old_content.result)) c.test-old_bit.ensures
          ∙ ap (λ b. fields b (with_content c.set_content.new.fields.contents p c.clear-old_content.result)) (ap (λ b. with_bit b p (set.contains c.args.fields.now.bits p)) (bits g c) ∙ bit_restored c.args.fields.now.bits p c.args.field.bit)
          ∙ ap (fields c.args.fields.now.bits) (ap (with_content c.set_content.new.fields.contents p) c.clear-old_content.ensures.old ∙ ap (λ m. with_content m p (map.get c.args.fields.now.contents p)) (contents g c) ∙ content_restored c.args.fields.now.contents p c.args.field.content);
      fits = subst (λ r. IsTrue (set.contains r p)) (sym room) c.requires;
    }
