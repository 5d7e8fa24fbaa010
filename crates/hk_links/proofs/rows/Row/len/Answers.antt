use Rattle.std.proofs.Common.{sym}
use Rattle.hk_links.proofs.Spreads.{length-spread}
use Rattle.hk_links.proofs.rows.Row.len.Goals as goal

pub returns : goal.returns
returns c = rw (← c.self.view_is) (sym (length-spread _ _ _ _))
