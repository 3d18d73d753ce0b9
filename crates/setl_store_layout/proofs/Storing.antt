-- What is stored, and the value that counts.
use Rattle.std.proofs.Common.{◌≡◌, Some, None, sym, ap}
use Rattle.std.specs.Borrow.{Bor}
use Rattle.setl_value.specs.code.DatumOf.{datum}
use Rattle.setl_value.specs.declared.Value.{Value}
use Rattle.setl_code.specs.CodeCore.{Held, There, Gone}
use Rattle.setl_code_events.specs.Told.{value_held}
use Rattle.setl_modes.specs.declared.mode.Mode.{Mode as ModeCode}
use Rattle.setl_rep_bases.specs.Bases.{BasesState}
use Rattle.setl_rep_forms.specs.declared.held.Held.{Held as Form}
use Rattle.setl_store.specs.MainProgram.{IsFormed, IsStored}
use Rattle.setl_store.specs.declared.main_program.Stored.TheVariants as stored

pub value_shows : (bs : BasesState) (h : Held) (v : Bor Value) → IsStored bs h (stored.Value v) → value_held h ≡ Some (datum v.now)
value_shows bs Gone v is = absurd is
value_shows bs (There None) v is = absurd is
value_shows bs (There (Some d)) v is = ap Some (sym is)

pub form_shows : (bs : BasesState) (h : Held) (m : Bor ModeCode) (f : Bor Form) → IsStored bs h (stored.Based m f) → IsFormed bs (value_held h) m.now f.now
form_shows bs Gone m f is = absurd is
form_shows bs (There v) m f is = is
