-- What an `Event` stands for.
use Rattle.setl_value.specs.code.DatumOf.{part}
use Rattle.setl_watch.specs.Notices.{Notice, Called, Returned, Stored, Printed, Kept, Back, Forgot}
use Rattle.setl_watch.specs.declared.event.Event.{Event}
use Rattle.setl_watch.specs.declared.event.Event.TheVariants as told

-- the notice that an event is
abbrev pub notice_of : Event → Notice
notice_of (told.Called line name) = Called line name
notice_of (told.Returned name) = Returned name
notice_of (told.Stored line name value) = Stored line name (part value)
notice_of (told.Printed bytes) = Printed bytes.items
notice_of told.Kept = Kept
notice_of told.Back = Back
notice_of told.Forgot = Forgot
