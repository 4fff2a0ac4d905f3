use Rattle.std.proofs.Common.{inl, inr, refl, subst, sym, IsTrue}
use Rattle.fk_server.proofs.Lasting.{tells_still}
use Rattle.fk_server.proofs.Running.{damage_told, is_run, refused_so}
use Rattle.fk_server.proofs.piped.serve_by.Goals as goal

pub returns-in-Ok : goal.returns-in-Ok
returns-in-Ok g c =
    let opening = c.in-Ok.ensures in
    let begins = opening.begins in
    let served = rw (begins.1, begins.2, begins.3) at c.serve_over.ensures.served in
    record {
      served = inl (
        c.serve_over.ensures.none,
        (
          c.salt_of-salt.result,
          g.J.Dice.words c.salt_of-salt.new.dice,
          c.salt_of-salt.ensures,
          is_run _ _ _ _ _ _ _ c.in-Ok.store.server _ _
              (record {
                stands = λ tell. opening.stands tell.0 tell.1;
                alone = begins.0;
                later_a = opening.cause.later_a;
                later_b = opening.cause.later_b;
                crash = opening.crash;
                sound = opening.sound;
              })
              served
              (λ tell. (
                tells_still g.D.Disk.told g.D.Disk.content g.D.Disk.moment g.D.Disk.images
                    c.in-Ok.store.shelf.live.disk c.serve_over.result.a served.turned.past.a
                    (g.met.D.Disk.has_content c.in-Ok.store.shelf.live.disk)
                    (g.met.D.Disk.has_told c.serve_over.result.a) (subst IsTrue (sym opening.told.0) tell.0),
                tells_still g.D.Disk.told g.D.Disk.content g.D.Disk.moment g.D.Disk.images
                    c.in-Ok.store.shelf.other c.serve_over.result.b served.turned.past.b
                    (g.met.D.Disk.has_content c.in-Ok.store.shelf.other)
                    (g.met.D.Disk.has_told c.serve_over.result.b) (subst IsTrue (sym opening.told.1) tell.1),
              )),
        ),
      );
    }

pub returns : goal.returns
returns g c =
    let refused = c.in-Err.ensures in
    record {
      served = rw (c.refuse.ensures.a, c.refuse.ensures.b)
          (inr (refused_so _ _ _ _ c.refuse.ensures.refusal refl refl (λ tell. refused.refused tell.0 tell.1)
          (λ tell. damage_told c.refuse.result.damage _ _ c.refuse.ensures.damaged
          (λ damage is. refused.damaged tell.0 tell.1 damage is))
          (record {
            later_a = refused.cause.later_a;
            later_b = refused.cause.later_b;
            failed = λ five. refused.cause.failed (c.refuse.ensures.fault five);
          })
          refused.told.0 refused.told.1 refused.crash));
    }
