use Rattle.std.proofs.Common.{Some, None, refl}
use Rattle.bb_shell.proofs.Saves.{always_saved, saved_err, saved_ok}
use Rattle.bb_session.proofs.Worked.{refused_by}
use Rattle.bb_session.proofs.store.save.Goals as goal

pub returns-in_err-save_always-clause-saved : goal.returns-in_err-save_always-clause-saved
returns-in_err-save_always-clause-saved g c =
    rw c.if-always.true (record {
      refusal = Some c.in_err-save_always.field-0.0;
      now = c.save_always.new.self.backing.used;
      run = always_saved c.args.state.now _ (Some c.in_err-save_always.field-0.0) _ _ c.requires.sure c.in_err-save_always.ensures.save;
      gives = refused_by _ _ c.from_residual.ensures.1;
    })

pub returns-then-always-clause-saved : goal.returns-then-always-clause-saved
returns-then-always-clause-saved g c =
    rw c.if-always.true (record {
      refusal = None;
      now = c.save_always.new.self.backing.used;
      run = always_saved c.args.state.now _ None _ _ c.requires.sure c.in_ok-save_always.ensures.save;
      gives = refl;
    })

pub returns-in_err-save-clause-saved : goal.returns-in_err-save-clause-saved
returns-in_err-save-clause-saved g c =
    let done = c.in_err-save.ensures in
    rw c.if-always.false (record {
      refusal = Some c.in_err-save.field-0.0;
      now = c.save.new.self.backing.used;
      run = saved_err c.args.state.now _ c.in_err-save.field-0.0 _ _ c.requires.sure (λ is. (let h = done.same is in cc)) done.save;
      gives = refused_by _ _ c.from_residual-in_err-save.ensures.1;
    })

pub returns-clause-saved : goal.returns-clause-saved
returns-clause-saved g c =
    let done = c.in_ok-save.ensures in
    rw c.if-always.false (record {
      refusal = None;
      now = c.save.new.self.backing.used;
      run = saved_ok c.args.state.now _ _ _ c.requires.sure done.idle done.save done.used;
      gives = refl;
    })
