use Rattle.std.proofs.Common.{◌∙◌, List, Bool, map, sym, ap, subst}
use Rattle.std.specs.Prelude.{slice_get}
use Rattle.setl_model_runs.specs.Variable.{Global}
use Rattle.setl_code.specs.declared.code.Body.{Body}
use Rattle.setl_code.specs.Plain.{plain_bodies}
use Rattle.setl_image.specs.Views.{image_of}
use Rattle.setl_image_operands.specs.Operands.{signature_of}
use Rattle.setl_live.specs.Slots.{TellsDeclared}
use Rattle.setl_image_sound.specs.SoundImage.{declared_of}
use Rattle.setl_image_sound.proofs.Assembling.{only_main}
use Rattle.setl_image_sound.proofs.bodies.are_sound.Goals as goal

pub all_are_sound-requires : goal.all_are_sound-requires
all_are_sound-requires c =
    let i = image_of c.args.image.now in
    let vars = map Global c.args.image.now.code.vars in
    record {
      bodies = c.as_slice-bodies.ensures;
      calls = c.deref.ensures.value ∙ c.in_ok-calls.ensures vars 0 ∙ ap (λ (bs : List Body). map signature_of (plain_bodies vars 0 bs)) c.as_slice-bodies.ensures;
      table =
          subst (λ (t : List Bool). TellsDeclared (declared_of i) (slice_get c.args.image.now.code.bodies 0) t) (sym c.deref-2.ensures.value)
          (subst (λ (bs : List Body). TellsDeclared (declared_of i) (slice_get bs 0) c.in_ok-table.table.items) c.as_slice-bodies.ensures (c.in_ok-table.ensures (declared_of i) (only_main i) c.requires.own));
    }
