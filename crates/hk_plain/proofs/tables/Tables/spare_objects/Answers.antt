-- Where the table is full, those go that are not rooted.
use Rattle.std.proofs.Common.{◌≡◌, ◌∙◌, ap, arith, length, List}
use Rattle.hk_model.specs.declared.names.Name.{Name}
use Rattle.hk_model.specs.State.{State}
use Rattle.hk_model.specs.Keeping.{members}
use Rattle.hk_plain.specs.Marking.{is_none_of}
use Rattle.hk_plain.proofs.MarkLemmas.{room_there, room_found, no_room}
use Rattle.hk_plain.proofs.tables.Tables.spare_objects.Goals as goal

pub returns-then-len-lt-OBJECT_LIMIT : goal.returns-then-len-lt-OBJECT_LIMIT
returns-then-len-lt-OBJECT_LIMIT c =
    let s : State = c.args.self.now in
    let os : c.self.inside.objects.entries ≡ s.objects = ap (λ (u : State). u.objects) c.self.view_is in
    let many : c.len.result ≡ length s.objects = c.len.ensures.len ∙ ap length os in
    room_there s c.new.result.keys (omega (arith, many, c.if-len-lt-OBJECT_LIMIT.true)) c.new.ensures.empty

pub returns-then-count_but-lt-OBJECT_LIMIT : goal.returns-then-count_but-lt-OBJECT_LIMIT
returns-then-count_but-lt-OBJECT_LIMIT c =
    let s : State = c.args.self.now in
    let os : c.self.inside.objects.entries ≡ s.objects = ap (λ (u : State). u.objects) c.self.view_is in
    let many : c.len.result ≡ length s.objects = c.len.ensures.len ∙ ap length os in
    let names : List Name = c.in_ok-spare.spare.keys in
    let left : c.count_but.result ≡ length (members s (is_none_of names)) = rw os at c.count_but.ensures in
    room_found s names c.in_ok-spare.ensures (omega (arith, many, c.if-len-lt-OBJECT_LIMIT.false)) (omega (arith, left, c.if-count_but-lt-OBJECT_LIMIT.true))

pub returns : goal.returns
returns c =
    let s : State = c.args.self.now in
    let os : c.self.inside.objects.entries ≡ s.objects = ap (λ (u : State). u.objects) c.self.view_is in
    let many : c.len.result ≡ length s.objects = c.len.ensures.len ∙ ap length os in
    let names : List Name = c.in_ok-spare.spare.keys in
    let left : c.count_but.result ≡ length (members s (is_none_of names)) = rw os at c.count_but.ensures in
    no_room s names c.in_ok-spare.ensures (omega (arith, many, c.if-len-lt-OBJECT_LIMIT.false)) (omega (arith, left, c.if-count_but-lt-OBJECT_LIMIT.false))
