use Rattle.std.proofs.Common.{sym, ◌∙◌}
use Rattle.cds_markup.proofs.Terms.{empty-is}
use Rattle.cds_markup.proofs.Quiet.{quiet_mode}
use Rattle.cds_markup.proofs.machine.Machine.run.Goals as goal

pub returns : goal.returns
returns c =
    let m = c.args.self.now in
    quiet_mode m.begun.items m.opens.items m.mode c.run.new.self c.args.bytes.now c.run.result (empty-is m.begun.items (sym c.is_fresh.ensures ∙ c.if-not-is_fresh.false)) (sym c.is_full.ensures ∙ c.if-is_full.false) (rw c.as_slice-opens.ensures.value at c.run.ensures)
