-- Connections that a script feeds: where they may begin and end, and what is heard on them.
use Rattle.std.proofs.Common.{◌≡◌, ℕ, true, List, [], ◌∷◌, ◌++◌, get_or, Option, Some, None, is_some, Result, Ok, Err, IfOk, refl, sym, ap, ◌∙◌, subst, append_assoc}
use Rattle.std.specs.Prelude.{option_and_then}
use Rattle.std.specs.Map.{set_value}
use Rattle.std.proofs.lemmas.List.{append-nil}
use Rattle.std.proofs.lemmas.Option.{get_or_from_slice_get}
use Rattle.rpc_frame.specs.Pieces.{EndsWith}
use Rattle.rpc_frame.specs.Stream.{StreamEnd, Begun, Broken}
use Rattle.rpc_frame.specs.declared.faults.FrameFault.{FrameFault}
use Rattle.rpc_frame.specs.declared.pieces.StreamRead.{StreamRead}
use Rattle.daemon_core.specs.declared.events.Event.TheVariants.{EditorFrame}
use Rattle.daemon_core.specs.State.{is_number}
use Rattle.plain_world.specs.Lines.{hung_line}
use Rattle.plain_world.specs.RawFrames.{Reader, Reading, read_behind}
use Rattle.plain_world.proofs.StepLemmas.{found_then, allowed_if}
use Rattle.kept_world.specs.Events.{KeptPlayed, IsEvent}
use Rattle.kept_world.specs.Moves.{then_played, Hears, Done, Stopped, Next, if_runs, IsHeardOn, is_fed}
use Rattle.kept_world.specs.Steps.{quietly, kept_of, raw_begun, raw_begins, without_raw, raw_ends}
use Rattle.kept_world.specs.Worlds.{KeptHost, KeptWorld, running, with_host}
use Rattle.kept_world.proofs.TieLemmas.{running_at}
use Rattle.daemon_host.specs.Streams.{IsReadAs}
use Rattle.daemon_host.proofs.HeardLemmas.{ends_broken, heard_on}
use Rattle.daemon_world.specs.Hearing.{IsReadOn, hung_at, hung_up, ends_if}
use Rattle.daemon_world.proofs.OrderLemmas.{there}

-- ---- where one may begin and end

pub record Begins (k : KeptWorld) (d c : ℕ) : Type 0 where
  pub host : KeptHost
  pub runs : running k d ≡ Some host
  pub is : raw_begins k d c ≡ Some (quietly (with_host k d (raw_begun host c)))

pub may_begin : (k : KeptWorld) (d c : ℕ) → is_some (raw_begins k d c) ≡ true → Begins k d c
may_begin k d c may =
    let p = there (raw_begins k d c) may in
    let found = found_then (running k d) _ p.item p.is in
    let allowed = allowed_if _ _ p.item found.next in
    record { host = found.item; runs = found.is; is = p.is ∙ ap Some (sym allowed.is) }

pub record Ends (k : KeptWorld) (d c : ℕ) : Type 0 where
  pub host : KeptHost
  pub runs : running k d ≡ Some host
  pub is : raw_ends k d c ≡ Some (quietly (with_host k d (without_raw c host)))

pub may_end : (k : KeptWorld) (d c : ℕ) → is_some (raw_ends k d c) ≡ true → Ends k d c
may_end k d c may =
    let p = there (raw_ends k d c) may in
    let found = found_then (running k d) _ p.item p.is in
    let kept = found_then (kept_of found.item c) _ p.item found.next in
    record { host = found.item; runs = found.is; is = p.is ∙ sym kept.next }

pub record IsFedAt (k : KeptWorld) (d c : ℕ) : Type 0 where
  pub host : KeptHost
  pub runs : running k d ≡ Some host
  pub kept : StreamEnd
  pub known : kept_of host c ≡ Some kept

pub fed_at : (k : KeptWorld) (d c : ℕ) → is_fed k d c ≡ true → IsFedAt k d c
fed_at k d c fed =
    let p = there (option_and_then (λ h. kept_of h c) (running k d)) fed in
    let found = found_then (running k d) (λ h. kept_of h c) p.item p.is in
    record { host = found.item; runs = found.is; kept = p.item; known = found.next }

-- ---- the daemon that a method finds at a place

same_host : (k : KeptWorld) (d : ℕ) (found : Option KeptHost) (g h : KeptHost) → running k d ≡ Some h → found ≡ get_or k.hosts d found → found ≡ Some g → g ≡ h
same_host k d found g h runs at is =
    let there : get_or k.hosts d found ≡ Some h = get_or_from_slice_get k.hosts d (Some h) found (running_at k d h runs) in
    let both : Some g ≡ Some h = sym is ∙ at ∙ there in cc

-- its connection has begun, or has ended
pub begins_so : (k w : KeptWorld) (d c : ℕ) (found : Option KeptHost) (h next : KeptHost) → w ≡ k → is_some (raw_begins k d c) ≡ true → found ≡ get_or w.hosts d found
    → found ≡ Some h → next ≡ raw_begun h c → raw_begins k d c ≡ Some (quietly (with_host w d next))
begins_so k w d c found h next same may at is begun =
    let b = may_begin w d c (subst (λ (l : KeptWorld). is_some (raw_begins l d c) ≡ true) (sym same) may) in
    let host : h ≡ b.host = same_host w d found h b.host b.runs at is in
    ap (λ (l : KeptWorld). raw_begins l d c) (sym same) ∙ b.is
    ∙ ap (λ (g : KeptHost). Some (quietly (with_host w d g))) (sym (begun ∙ ap (λ (g : KeptHost). raw_begun g c) host))

pub ends_so : (k w : KeptWorld) (d c : ℕ) (found : Option KeptHost) (h next : KeptHost) → w ≡ k → is_some (raw_ends k d c) ≡ true → found ≡ get_or w.hosts d found
    → found ≡ Some h → next ≡ without_raw c h → raw_ends k d c ≡ Some (quietly (with_host w d next))
ends_so k w d c found h next same may at is ended =
    let e = may_end w d c (subst (λ (l : KeptWorld). is_some (raw_ends l d c) ≡ true) (sym same) may) in
    let host : h ≡ e.host = same_host w d found h e.host e.runs at is in
    ap (λ (l : KeptWorld). raw_ends l d c) (sym same) ∙ e.is
    ∙ ap (λ (g : KeptHost). Some (quietly (with_host w d g))) (sym (ended ∙ ap (without_raw c) host))

pub hangs_so : (k w : KeptWorld) (d c : ℕ) (found : Option KeptHost) (h next : KeptHost) (line : List ℕ) → w ≡ k → is_some (running k d) ≡ true
    → found ≡ get_or w.hosts d found → found ≡ Some h → next ≡ without_raw c h → line ≡ hung_line d c
    → hung_up d c k ≡ record { world = with_host w d next; printed = line }
hangs_so k w d c found h next line same may at is ended told =
    let r = there (running w d) (subst (λ (l : KeptWorld). is_some (running l d) ≡ true) (sym same) may) in
    let host : h ≡ r.item = same_host w d found h r.item r.is at is in
    ap (hung_up d c) (sym same) ∙ ap (λ found. if_runs found (hung_at d c w) w) r.is
    ∙ (λ i. record { world = with_host w d (sym (ended ∙ ap (without_raw c) host) i); printed = sym told i })

-- a piece of it was read
pub reads_so : (reader : Reader) (k w : KeptWorld) (d c : ℕ) (piece slice : List ℕ) (found : Option KeptHost) (h next : KeptHost) (read : StreamRead) → w ≡ k
    → is_fed k d c ≡ true → found ≡ get_or w.hosts d found → found ≡ Some h → slice ≡ piece
    → ((r : Reader) (kept : StreamEnd) → kept_of h c ≡ Some kept → IsReadAs (read_behind r kept slice) read)
    → ((r : Reader) (kept : StreamEnd) → kept_of h c ≡ Some kept
    → next ≡ record h { readers = set_value (is_number c) h.readers (read_behind r kept slice).kept })
    → IsReadOn reader k d c piece (with_host w d next) read
reads_so reader k w d c piece slice found h next read same fed at is whole reads keeps =
    let f = fed_at k d c fed in
    let host : h ≡ f.host = same_host w d found h f.host (ap (λ (l : KeptWorld). running l d) same ∙ f.runs) at is in
    let known : kept_of h c ≡ Some f.kept = ap (λ (g : KeptHost). kept_of g c) host ∙ f.known in
    subst (λ xs. IsReadOn reader k d c xs (with_host w d next) read) whole
    (record {
      host = h;
      runs = f.runs ∙ ap Some (sym host);
      kept = f.kept;
      known = known;
      world = ap (λ (l : KeptWorld). with_host l d next) same ∙ ap (with_host k d) (keeps reader f.kept known);
      is = reads reader f.kept known;
    })

pub both_ok : {X E : Type 0} (r : Result X E) (P Q R : X → Type 0) → ((x : X) → P x → Q x → R x) → IfOk r P → IfOk r Q → IfOk r R
both_ok (Ok x) P Q R f p q = f x p q
both_ok (Err e) P Q R f p q = tt

-- ---- bodies in turn

-- whatever the other bodies come to, all come to it behind what the first have come to
pub record HearsBehind (d c : ℕ) (all rest : List (List ℕ)) (k l : KeptWorld) (printed : List ℕ) : Type 0 where
  pub goes_on : (next : KeptPlayed) → Hears d c rest l next → Hears d c all k (record { world = next.world; printed = printed ++ next.printed })

pub hears_first : (d c : ℕ) (all : List (List ℕ)) (k : KeptWorld) → HearsBehind d c all all k k []
hears_first d c all k = record { goes_on = λ next hears. hears }

hears_more : (d c : ℕ) (all rest : List (List ℕ)) (body : List ℕ) (k l : KeptWorld) (printed : List ℕ) (first : KeptPlayed)
    → IsEvent l d (EditorFrame c body) first → HearsBehind d c all (body ∷ rest) k l printed
    → HearsBehind d c all rest k first.world (printed ++ first.printed)
hears_more d c all rest body k l printed first event so = record {
  goes_on = λ next hears.
      subst (λ lines. Hears d c all k (record { world = next.world; printed = lines })) (sym (append_assoc printed first.printed next.printed))
      (so.goes_on (then_played first next) (Next body rest l first next event hears));
}

pub hears_step : (d c : ℕ) (all before rest : List (List ℕ)) (body : List ℕ) (k l m : KeptWorld) (printed now lines : List ℕ) → before ≡ body ∷ rest
    → now ≡ printed ++ lines → IsEvent l d (EditorFrame c body) (record { world = m; printed = lines }) → HearsBehind d c all before k l printed
    → HearsBehind d c all rest k m now
hears_step d c all before rest body k l m printed now lines left told event so =
    subst (HearsBehind d c all rest k m) (sym told)
    (hears_more d c all rest body k l printed (record { world = m; printed = lines }) event (subst (λ bodies. HearsBehind d c all bodies k l printed) left so))

no_more : (d c : ℕ) (all rest : List (List ℕ)) (k l : KeptWorld) (printed : List ℕ) → HearsBehind d c all rest k l printed → Hears d c rest l (quietly l)
    → Hears d c all k (record { world = l; printed = printed })
no_more d c all rest k l printed so hears =
    subst (λ lines. Hears d c all k (record { world = l; printed = lines })) (append-nil printed) (so.goes_on (quietly l) hears)

pub hears_all : (d c : ℕ) (all rest : List (List ℕ)) (k l : KeptWorld) (printed : List ℕ) → rest ≡ [] → HearsBehind d c all rest k l printed
    → Hears d c all k (record { world = l; printed = printed })
hears_all d c all rest k l printed none so =
    no_more d c all rest k l printed so (subst (λ bodies. Hears d c bodies l (quietly l)) (sym none) (Done l))

pub hears_stopped : (d c : ℕ) (all before rest : List (List ℕ)) (body : List ℕ) (k l : KeptWorld) (printed : List ℕ) → before ≡ body ∷ rest → running l d ≡ None
    → HearsBehind d c all before k l printed → Hears d c all k (record { world = l; printed = printed })
hears_stopped d c all before rest body k l printed left stopped so =
    no_more d c all before k l printed so (subst (λ bodies. Hears d c bodies l (quietly l)) (sym left) (Stopped body rest l stopped))

-- ---- a piece

ends_alike : (fault : Option FrameFault) (kept : StreamEnd) (d c : ℕ) (k : KeptWorld) → EndsWith fault kept → ends_if fault d c k ≡ ends_broken kept d c k
ends_alike None (Begun bytes) d c k ends = refl
ends_alike None (Broken met) d c k ends = absurd ends
ends_alike (Some fault) (Begun bytes) d c k ends = absurd ends
ends_alike (Some fault) (Broken met) d c k ends = refl

pub is_heard : (reader : Reader) (k l : KeptWorld) (d c : ℕ) (piece : List ℕ) (read : StreamRead) (bodies p : KeptPlayed)
    → IsReadOn reader k d c piece l read → Hears d c read.bodies l bodies → p ≡ then_played bodies (ends_if read.fault d c bodies.world)
    → IsHeardOn reader k d c piece p
is_heard reader k l d c piece read bodies p on hears is =
    let reading : Reading = read_behind reader on.kept piece in
    let come : Hears d c reading.bodies (with_host k d (record on.host { readers = _ })) bodies =
    subst (λ w. Hears d c reading.bodies w bodies) on.world (subst (λ xs. Hears d c xs l bodies) on.is.bodies hears) in
    subst (IsHeardOn reader k d c piece)
    (sym (is ∙ ap (then_played bodies) (ends_alike read.fault reading.kept d c bodies.world on.is.ends)))
    (heard_on reader k d c piece on.host on.kept bodies on.runs on.known come)
