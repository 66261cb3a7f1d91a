-- `quicksurvey::search` meets its contract. Assumes nothing.
use native.Mathlib.Nat.{le_refl}
use native.Mathlib.Omega.{arith}
use Rattle.survey.proofs.Rooms.{room_is, searched_as, searched_found, count_found_lem}
use Rattle.quicksurvey.proofs.search.Goals as goal

pub slice_bounds-find_breaks-end-2 : goal.slice_bounds-find_breaks-end-2
slice_bounds-find_breaks-end-2 c = room_is 2048 _ _ c.least-room.ensures

pub returns-in-Ok : goal.returns-in-Ok
returns-in-Ok c =
    let few = count_found_lem c.in-Ok.is c.find_breaks.ensures.count in
    record { breaks = searched_found _ _ _ _ few c.find_breaks.auto.row (searched_as c.args.samples.now c.args.breaks.now c.args.g c.args.len _ c.least-room.ensures _ c.find_breaks.ensures.row c.in-Ok.is); samples = le_refl _; places = omega (arith, few, room_is 2048 c.args.breaks.now _ c.least-room.ensures, c.least-room.ensures) }

pub returns-in-Err-Full : goal.returns-in-Err-Full
returns-in-Err-Full c =
    record { breaks = searched_as c.args.samples.now c.args.breaks.now c.args.g c.args.len _ c.least-room.ensures _ c.find_breaks.ensures.row (rw c.in-Err-Full.field-0-is at c.in-Err-Full.is); samples = omega arith; places = omega arith }

pub returns-in-Err-Missing : goal.returns-in-Err-Missing
returns-in-Err-Missing c =
    record { breaks = searched_as c.args.samples.now c.args.breaks.now c.args.g c.args.len _ c.least-room.ensures _ c.find_breaks.ensures.row (rw c.in-Err-Missing.field-0-is at c.in-Err-Missing.is); samples = omega arith; places = omega arith }

pub returns-in-Err-Past : goal.returns-in-Err-Past
returns-in-Err-Past c =
    record { breaks = searched_as c.args.samples.now c.args.breaks.now c.args.g c.args.len _ c.least-room.ensures _ c.find_breaks.ensures.row (rw c.in-Err-Past.field-0-is at c.in-Err-Past.is); samples = omega arith; places = omega arith }
