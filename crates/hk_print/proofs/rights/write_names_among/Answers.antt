use Rattle.std.proofs.Common.{◌≡◌, ◌++◌, rules, ◌∙◌, string_bytes, get_or, ap, None, ℕ}
use Rattle.hk_rights.specs.Rights.{has, name_of}
use Rattle.hk_print.proofs.Names.{name_pushed, name_passed, asked_some, asked_none}
use Rattle.hk_print.proofs.rights.write_names_among.Goals as goal
use Rattle.hk_print.proofs.rights.write_names_among.Goals.{in-Some+in_ok-push_name, in_default}

pub loop-number-preserved : goal.loop-number-preserved
loop-number-preserved c = elim c.match-right_of.branch [
  | in-Some+in_ok-push_name w ↦
      let asked = asked_some (has c.args.rights (get_or c.args.numbers.now c.loop-number.number-index 0)) _ w.in-Some.right c.right_of.result c.right_of.ensures w.in-Some.is in
      let next = name_pushed (has c.args.rights) (string_bytes c.args.out.now) c.args.numbers.now c.loop-number.number-index 0
      (string_bytes c.loop-number.out) c.loop-number.separator.now c.loop-number-test.true asked.0 c.loop-number.invariant.text c.loop-number.invariant.before in
      let named = ap (λ (n : ℕ). string_bytes c.loop-number.out ++ (c.loop-number.separator.now ++ name_of n)) asked.1 in
      record { text = rw w.out-is (w.in_ok-push_name.ensures ∙ (named ∙ next.0)); before = rw w.separator-is next.1 }
  | in_default w ↦
      let none : c.right_of.result ≡ None = search rules in
      let asked = asked_none (has c.args.rights (get_or c.args.numbers.now c.loop-number.number-index 0)) _ c.right_of.result c.right_of.ensures none in
      let same = name_passed (has c.args.rights) c.args.numbers.now c.loop-number.number-index 0 c.loop-number-test.true asked in
      record { text = rw (w.out-is, same) c.loop-number.invariant.text; before = rw (w.separator-is, same) c.loop-number.invariant.before }
]
