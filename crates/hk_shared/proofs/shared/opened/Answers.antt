use Rattle.std.proofs.Common.{arith, ap, ◌∙◌, subst, [], ◌∷◌, Some, map}
use Rattle.hk_model.specs.declared.world.Task.{Task}
use Rattle.hk_model.specs.Control.{new_frame}
use Rattle.hk_model.specs.Opening.{opening}
use Rattle.hk_model.specs.WorldValue.{WorldValue, IsWorld}
use Rattle.hk_shared.proofs.OpenBook.{no_steps, open_state, open_keeps}
use Rattle.hk_shared.specs.Books.{stops}
use Rattle.hk_procs.specs.Notes.{events}
use Rattle.std.proofs.Common.{None, ◌++◌}
use Rattle.hk_shared.proofs.shared.opened.Goals as goal

pub returns : goal.returns
returns g c =
    let w = g.J.Naming.world in let none = c.in_ok-lines.ensures.items in (
      ap (λ ls. events ls ++ stops None) none,
      record {
        world = c.in_ok-world.ensures ∙ c.requires.world;
        valid = subst (λ (x : WorldValue). IsWorld x) c.requires.world c.limit.ensures.valid;
        steps = no_steps w c.in_ok-lines.lines.items none;
        kernel = open_state w c.in_ok-lines.lines.items (g.K.Kernel.state c.args.kernel) none (c.requires.opening ∙ ap opening c.requires.world);
        contexts =
            open_keeps w c.in_ok-lines.lines.items c.in_ok-contexts.contexts.items none
            (c.in_ok-contexts.ensures ∙ ap (λ ts. map (λ (t : Task). Some (new_frame t.code ∷ [])) ts) (c.tasks.ensures.value ∙ ap (λ (x : WorldValue). x.tasks) c.requires.world));
        room = let a = c.in_ok-lines.ensures.capacity in let b = c.limit.ensures.value in let d = ap (λ (x : WorldValue). x.limit) c.requires.world in omega (arith, a, b, d);
      },
    )
