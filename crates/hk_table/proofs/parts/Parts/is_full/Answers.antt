use Rattle.hk_table.proofs.Rooms.{full_is}
use Rattle.hk_table.proofs.WhatIsLeft.{whole_few}
use Rattle.hk_table.proofs.parts.Parts.is_full.Goals as goal

pub returns-clause-full : goal.returns-clause-full
returns-clause-full c =
    rw (← c.self.view_is) (full_is c.self.inside.objects.slots c.self.inside.queues.waiting c.is_full.result c.next_name-next.ensures.room c.is_full.ensures)

pub returns-clause-few : goal.returns-clause-few
returns-clause-few c = rw (← c.self.view_is) (whole_few c.self.inside.objects.slots c.self.inside.queues.waiting c.next_name-next.ensures.room)
