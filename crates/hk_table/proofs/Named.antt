-- Whatever is named stands, at each moment.
use Rattle.std.proofs.Common.{◌≡◌, ◌+◌, List, [], ◌∷◌, Option, Some, None, Result, Ok, Err, IfSome, IfNone, IfOk, OnOk, OnErr, refl, sym, ap, subst, arith}
use Rattle.hk_model.specs.declared.names.Cpu.{Cpu}
use Rattle.hk_model.specs.declared.names.Proc.{Proc}
use Rattle.hk_model.specs.declared.calls.Call.{Call}
use Rattle.hk_model.specs.declared.calls.Refusal.{Refusal}
use Rattle.hk_model.specs.declared.calls.Reply.{Reply}
use Rattle.hk_model.specs.State.{State}
use Rattle.hk_model.specs.Opening.{opening}
use Rattle.hk_model.specs.Processors.{runner, dispatched, dispatched_from, halted}
use Rattle.hk_model.specs.Rule.{rule}
use Rattle.hk_model.specs.WorldValue.{WorldValue, IsWorld}
use Rattle.hk_model.proofs.CallWays.{room_vanish}
use Rattle.hk_model.proofs.NamesKept.{named_each}
use Rattle.hk_model.proofs.NamesOpened.{opening_named}
use Rattle.hk_model.proofs.NamesStand.{NamedStand, vanish_named}
use Rattle.hk_table.specs.Joined.{FewNumbers}
use Rattle.hk_table.specs.Rooms.{MakesRoom}
use Rattle.hk_table.specs.Told.{AllNamedStand}

law : (s : State) → AllNamedStand s → NamedStand s
law s h = record { each = h }

pub act_named : (s t : State) (cpu : Cpu) (proc : Proc) (c : Call) (reply : Reply) → runner s cpu ≡ Some proc → rule s proc c ≡ (reply, t) → AllNamedStand s → AllNamedStand t
act_named s t cpu proc c reply runs is h =
    let named : NamedStand (rule s proc c).1 = named_each.calls s cpu proc c runs (law s h) in
    subst (λ (f : Reply × State). AllNamedStand f.1) is (λ n k. named.each n k)

pub halt_named : (s t : State) (cpu : Cpu) (proc : Proc) → runner s cpu ≡ Some proc → t ≡ halted s proc → AllNamedStand s → AllNamedStand t
halt_named s t cpu proc runs is h =
    let named : NamedStand (halted s proc) = named_each.halts s cpu proc runs (law s h) in subst (λ (f : State). AllNamedStand f) (sym is) (λ n k. named.each n k)

pub dispatch_named : (s t : State) (cpu : Cpu) (proc : Proc) → dispatched s cpu ≡ Some (proc, t) → AllNamedStand s → AllNamedStand t
dispatch_named s t cpu proc is h = by s.ready refl is where
  by : (procs : List Proc) → s.ready ≡ procs → dispatched_from s cpu procs ≡ Some (proc, t) → AllNamedStand t
  by [] e k = absurd (cc)
  by (first ∷ rest) e k =
      let named = named_each.dispatches s cpu first rest e (law s h) in
      let same : _ ≡ t = ap (λ (o : Option (Proc × State)). second o) k in
      subst (λ (f : State). AllNamedStand f) same (λ n x. named.each n x) where
        second : Option (Proc × State) → State
        second None = s
        second (Some f) = f.1

pub opened_named : (w : WorldValue) → IsWorld w → AllNamedStand (opening w)
opened_named w h = let named = opening_named w h in λ n k. named.each n k

pub room_named : (before after : State) (r : Result (Unit {0}) Refusal) → MakesRoom before r after → AllNamedStand before → AllNamedStand after
room_named before after (Ok done) m h =
    let named = vanish_named before after.objects (room_vanish before after.objects m.0) (law before h) in
    subst (λ (f : State). AllNamedStand f) (sym m.1) (λ n k. named.each n k)
room_named before after (Err refusal) m h = subst (λ (f : State). AllNamedStand f) (sym m.1) h

-- what holds of the numbers and names of a table holds on

pub dispatch_lasts : (s t : State) (cpu : Cpu) (proc : Proc) → dispatched s cpu ≡ Some (proc, t) → FewNumbers s × AllNamedStand s → FewNumbers t × AllNamedStand t
dispatch_lasts s t cpu proc is h = (by s.ready is, dispatch_named s t cpu proc is h.1) where
  by : (procs : List Proc) → dispatched_from s cpu procs ≡ Some (proc, t) → FewNumbers t
  by [] k = absurd (cc)
  by (first ∷ rest) k =
      let name : t.next_name.0 ≡ s.next_name.0 = ap (λ (o : Option (Proc × State)). (second o).next_name.0) (sym k) in
      let inc : t.next_inc.0 ≡ s.next_inc.0 = ap (λ (o : Option (Proc × State)). (second o).next_inc.0) (sym k) in
      let events : t.events ≡ s.events + 1 = ap (λ (o : Option (Proc × State)). (second o).events) (sym k) in
      let a = h.0.0 in
      let b = h.0.1 in
      (omega (arith, name, events, a), omega (arith, inc, events, b)) where
        second : Option (Proc × State) → State
        second None = s
        second (Some f) = f.1

pub halt_lasts : (s t : State) (cpu : Cpu) (proc : Proc) → runner s cpu ≡ Some proc → t ≡ halted s proc → FewNumbers s × AllNamedStand s → FewNumbers t × AllNamedStand t
halt_lasts s t cpu proc runs is h =
    let name : t.next_name.0 ≡ s.next_name.0 = ap (λ (x : State). x.next_name.0) is in
    let inc : t.next_inc.0 ≡ s.next_inc.0 = ap (λ (x : State). x.next_inc.0) is in
    let events : t.events ≡ s.events + 1 = ap (λ (x : State). x.events) is in
    let a = h.0.0 in
    let b = h.0.1 in
    ((omega (arith, name, events, a), omega (arith, inc, events, b)), halt_named s t cpu proc runs is h.1)

pub dispatch_leaves : (s t : State) (cpu : Cpu) (r : Option Proc) → IfSome r (λ proc. dispatched s cpu ≡ Some (proc, t)) → IfNone r ((dispatched s cpu ≡ None) × (t ≡ s))
    → FewNumbers s × AllNamedStand s
    → FewNumbers t × AllNamedStand t
dispatch_leaves s t cpu None given none h = subst (λ (x : State). FewNumbers x × AllNamedStand x) (sym none.1) h
dispatch_leaves s t cpu (Some proc) given none h = dispatch_lasts s t cpu proc given h

pub act_leaves : {X Y : Type 0} (reply : X → Reply) (s t : State) (cpu : Cpu) (proc : Proc) (c : Call) (r : Result X Y) → runner s cpu ≡ Some proc
    → IfOk r (λ x. rule s proc c ≡ (reply x, t)) → OnOk r (FewNumbers t) → OnErr r (t ≡ s) → FewNumbers s × AllNamedStand s
    → FewNumbers t × AllNamedStand t
act_leaves reply s t cpu proc c (Ok x) runs is few same h = (few, act_named s t cpu proc c (reply x) runs is h.1)
act_leaves reply s t cpu proc c (Err e) runs is few same h = subst (λ (x : State). FewNumbers x × AllNamedStand x) (sym same) h
