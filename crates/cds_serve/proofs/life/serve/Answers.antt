-- The whole life of a server: what it begins with is asked for before, and handed back at the end.
use Rattle.std.proofs.Common.{◌≡◌, Err, ◌⊎◌, ap, subst, sym, ◌∙◌, ◌+◌, le_trans}
use Rattle.cds_outside.specs.Outside.{Rose, SinkTold, raised}
use Rattle.cds_outside.specs.Told.{OutsideTold, SpawnerTold}
use Rattle.cds_serve.specs.Life.{AsksFor, Outer, WritesLife, life_asks}
use Rattle.cds_serve.proofs.Lives.{asks-over, cause-as, caused-as, ends-life, gave-none, keeps-all, keeps-none, on-ok-as, rose-end, six-started, writes-none}
use Rattle.cds_serve.proofs.life.serve.Goals as goal

pub returns-in-Err-clause-ends : goal.returns-in-Err-clause-ends
returns-in-Err-clause-ends g c =
    let old : Outer = record { outside = g.O.Outside.told c.args.outside.now; sink = g.K.Sink.told c.args.sink.now } in
    let new : Outer = record { outside = g.O.Outside.told c.hire.new.outside; sink = g.K.Sink.told c.args.sink.now } in
    let e = c.in-Err.fault in
    ends-life c.args.port c.args.requests c.args.folder.now old new (Err e) c.status_of-in-Err.result c.status_of-in-Err.ensures
    (caused-as e ⊥ _ _ _ c.in-Err.ensures.cause (λ n. absurd n) (λ q. q))
    (writes-none c.args.port c.args.requests e old.sink.holds) c.in-Err.ensures.asks tt tt

pub returns-in-Ok-clause-ends : goal.returns-in-Ok-clause-ends
returns-in-Ok-clause-ends g c =
    let o0 : OutsideTold = g.O.Outside.told c.args.outside.now in
    let o1 : OutsideTold = g.O.Outside.told c.hire.new.outside in
    let o2 : OutsideTold = g.O.Outside.told c.live-ended.new.outside in
    let o3 : OutsideTold = g.O.Outside.told c.end_front.new.outside in
    let k0 : SinkTold = g.K.Sink.told c.args.sink.now in
    let k1 : SinkTold = g.K.Sink.told c.live-ended.new.sink in
    let w0 : SpawnerTold = g.O.W.Spawner.told c.in-Ok.hired.front.spawner in
    let w1 : SpawnerTold = g.O.W.Spawner.told c.live-ended.new.spawner in
    let result = c.live-ended.result in
    let live = c.live-ended.ensures in
    let back = c.end_front.ensures in
    let asked = c.in-Ok.ensures.asked in
    let fresh = c.in-Ok.ensures.spawner in
    let others = c.in-Ok.ensures.others in
    let port = c.args.port in
    let requests = c.args.requests in
    let stays : o2.asked ≡ o1.asked = ap (λ (t : OutsideTold). t.asked) live.others_stay in
    ends-life port requests c.args.folder.now (record { outside = o0; sink = k0 }) (record { outside = o3; sink = k1 }) result c.status_of.result c.status_of.ensures
    (cause-as result (Rose k0.faults k1.faults) (Rose o1.faults o2.faults ⊎ Rose w0.faults w1.faults) (Rose k0.faults k1.faults) (Rose o0.faults o3.faults) live.cause (λ p. p)
    (rose-end o0.faults o1.faults o2.faults o3.faults w0.faults w1.faults c.hire.ensures.never_falls live.outside_never_falls back.never_falls
    (ap (λ (t : SpawnerTold). t.faults) fresh) back.rose_spawner))
    (subst (λ n. WritesLife result port n k0.holds k1.holds) asked.1 (subst (λ n. WritesLife result n c.in-Ok.hired.crew.requests k0.holds k1.holds) asked.0 live.writes))
    (subst (λ a. AsksFor result (life_asks port c.args.folder.now) o0.asked a) (sym (back.asked ∙ stays))
    (asks-over result c.in-Ok.hired (life_asks port c.args.folder.now) o0.asked o1.asked c.in-Ok.ensures.asks))
    (on-ok-as result _ _
    (λ all. gave-none o0.connections o2.connections o3.connections requests _ c.in-Ok.ensures.none_given
    (λ n. all n ∙ ap (λ k. raised k (c.in-Ok.hired.crew.requests + n)) (ap (λ (t : OutsideTold). t.connections) others) ∙ ap (λ k. raised o0.connections (k + n)) asked.1) back.connections)
    live.connections)
    (on-ok-as result _ _
    (λ six. six-started o0.started o3.started w1.started w0.started (ap (λ (t : SpawnerTold). t.started) fresh) six
    (back.started ∙ ap (λ k. raised k w1.started) (ap (λ (t : OutsideTold). t.started) live.others_stay ∙ ap (λ (t : OutsideTold). t.started) others)))
    live.started)

pub returns-in-Ok-clause-outside_never_falls : goal.returns-in-Ok-clause-outside_never_falls
returns-in-Ok-clause-outside_never_falls g c =
    le_trans c.hire.ensures.never_falls (le_trans c.live-ended.ensures.outside_never_falls c.end_front.ensures.never_falls)

pub returns-in-Ok-clause-ended_stays : goal.returns-in-Ok-clause-ended_stays
returns-in-Ok-clause-ended_stays g c =
    let o0 : OutsideTold = g.O.Outside.told c.args.outside.now in
    let o1 : OutsideTold = g.O.Outside.told c.hire.new.outside in
    let o2 : OutsideTold = g.O.Outside.told c.live-ended.new.outside in
    let o3 : OutsideTold = g.O.Outside.told c.end_front.new.outside in
    keeps-all o0 o1 o2 o3 c.hire.ensures.ended_stays c.live-ended.ensures.others_stay c.live-ended.ensures.folders c.end_front.ensures.ended_stays

pub returns-in-Err-clause-ended_stays : goal.returns-in-Err-clause-ended_stays
returns-in-Err-clause-ended_stays g c = keeps-none (g.O.Outside.told c.args.outside.now) (g.O.Outside.told c.hire.new.outside) c.hire.ensures.ended_stays
