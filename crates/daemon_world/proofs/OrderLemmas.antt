-- What each step of a world keeps: each connection is that of the editor it was begun for, and a lost editor has nothing under way.
use Rattle.std.proofs.Common.{◌≡◌, ◌⊎◌, inl, inr, ℕ, ◌+◌, ◌-◌, ◌<◌, ◌==◌, Bool, true, false, List, [], ◌∷◌, ◌++◌, length, get_or, take, drop, map, Option, Some, None, is_some, refl, sym, ap, ◌∙◌, subst, arith}
use Rattle.std.specs.Prelude.{slice_get, slice_set, option_and_then, if◌then◌else◌}
use Rattle.std.proofs.lemmas.Bool.{eqb-true, eqb-false}
use Rattle.std.proofs.lemmas.List.{append-nil, drop_all, length-map, take_all}
use Rattle.std.proofs.lemmas.Option.{slice_get_within}
use Rattle.bridge_world.proofs.RoomLemmas.{got}
use Rattle.daemon_core.specs.declared.events.Output.{Output}
use Rattle.frame_world.specs.Seats.{Seat}
use Rattle.plain_world.specs.declared.TheConstants.{FIRST_OWN}
use Rattle.plain_world.proofs.ListLemmas.{from_map, from_set, at_push}
use Rattle.kept_world.specs.Events.{received_on, told_editor}
use Rattle.kept_world.specs.Worlds.{KeptHost, KeptEditor, KeptWorld, if_there, running, editor_of, with_host, with_editor, with_seat, cut_off, lost_with, without_host}
use Rattle.kept_world.proofs.HostLemmas.{running_set, running_beside}
use Rattle.kept_world.proofs.TieLemmas.{running_at}
use Rattle.kept_world.proofs.ZipLemmas.{pushed_at}
use Rattle.daemon_world.specs.Order.{IsConnectedOn, IsApart, IsOrderly}

-- ---- options

some_not_none : {A : Type 0} (o : Option A) (x : A) → o ≡ Some x → is_some o ≡ true
some_not_none o x is = ap is_some is

pub record IsThere {A : Type 0} (o : Option A) : Type 0 where
  pub item : A
  pub is : o ≡ Some item

pub there : {A : Type 0} (o : Option A) → is_some o ≡ true → IsThere o
there None never = cc
there (Some x) is = record { item = x; is = refl }

-- ---- an editor's place, where the world around it has changed

-- wherever a daemon ran, one runs still
abbrev pub RunsStill : KeptWorld → KeptWorld → Type 0
RunsStill k l = (d : ℕ) → is_some (running k d) ≡ true → is_some (running l d) ≡ true

connected_still : (k l : KeptWorld) (owners : List ℕ) (e n : ℕ) (x : KeptEditor) → RunsStill k l → IsConnectedOn k owners e x n → IsConnectedOn l owners e x n
connected_still k l owners e n x still at = record { own = at.own; owner = at.owner; runs = still x.daemon at.runs }

-- the same editors among other daemons
pub among : (k l : KeptWorld) (owners : List ℕ) → l.editors ≡ k.editors → RunsStill k l → IsOrderly k owners → IsOrderly l owners
among k l owners same still orderly = record {
  connected = λ e n x at on.
      connected_still k l owners e n x still (orderly.connected e n x (ap (λ (xs : List KeptEditor). slice_get xs e) (sym same) ∙ at) on);
  apart = λ e x at on. orderly.apart e x (ap (λ (xs : List KeptEditor). slice_get xs e) (sym same) ∙ at) on;
}

-- ---- daemons

pub runs_set : (k l : KeptWorld) (d : ℕ) (next : KeptHost) → is_some (running k d) ≡ true → l.hosts ≡ slice_set k.hosts d (Some next) → RunsStill k l
runs_set k l d next runs is i ran = by (i == d) refl where
  by : (b : Bool) → (i == d) ≡ b → is_some (running l i) ≡ true
  by true here =
      let host = there (running k d) runs in
      ap (λ j. is_some (running l j)) (eqb-true i d here) ∙ ap is_some (running_set k l d host.item next host.is is)
  by false apart = ap is_some (running_beside k l d i (Some next) (eqb-false i d apart) is) ∙ ran

-- a daemon has changed
pub host_set : (k : KeptWorld) (owners : List ℕ) (d : ℕ) (next : KeptHost) → is_some (running k d) ≡ true → IsOrderly k owners
    → IsOrderly (with_host k d next) owners
host_set k owners d next runs orderly = among k (with_host k d next) owners refl (runs_set k (with_host k d next) d next runs refl) orderly

runs_pushed : (hosts : List (Option KeptHost)) (new : Option KeptHost) (i : ℕ) → is_some (option_and_then if_there (slice_get hosts i)) ≡ true
    → is_some (option_and_then if_there (slice_get (hosts ++ new ∷ []) i)) ≡ true
runs_pushed hosts new i ran = by (slice_get hosts i) refl ran where
  by : (o : Option (Option KeptHost)) → slice_get hosts i ≡ o → is_some (option_and_then if_there o) ≡ true
      → is_some (option_and_then if_there (slice_get (hosts ++ new ∷ []) i)) ≡ true
  by None is ran = cc
  by (Some host) is ran = ap (λ o. is_some (option_and_then if_there o)) (at_push hosts new i host is) ∙ ran

-- one more daemon has begun
pub host_pushed : (k : KeptWorld) (owners : List ℕ) (new : Option KeptHost) → IsOrderly k owners
    → IsOrderly (record k { hosts = k.hosts ++ new ∷ [] }) owners
host_pushed k owners new orderly = among k (record k { hosts = k.hosts ++ new ∷ [] }) owners refl (λ d ran. runs_pushed k.hosts new d ran) orderly

-- ---- one editor

-- it has a place of its own: what is said of each editor is said of it
pub record HasPlace (k : KeptWorld) (owners : List ℕ) (e : ℕ) (x : KeptEditor) : Type 0 where
  pub connected : (n : ℕ) → x.connection ≡ Some n → IsConnectedOn k owners e x n
  pub apart : x.connection ≡ None → IsApart x

pub place_of : (k : KeptWorld) (owners : List ℕ) (e : ℕ) (x : KeptEditor) → editor_of k e ≡ Some x → IsOrderly k owners → HasPlace k owners e x
place_of k owners e x at orderly = record { connected = λ n on. orderly.connected e n x at on; apart = λ on. orderly.apart e x at on }

-- an editor is replaced by one that has its place
pub editor_set : (k : KeptWorld) (owners : List ℕ) (e : ℕ) (y : KeptEditor) → HasPlace k owners e y → IsOrderly k owners → IsOrderly (with_editor k e y) owners
editor_set k owners e y place orderly = record {
  connected = λ i n x at on. connected i n x (from_set k.editors e i y x at) on;
  apart = λ i x at on. apart i x (from_set k.editors e i y x at) on;
} where
  connected : (i n : ℕ) (x : KeptEditor) → (slice_get k.editors i ≡ Some x) ⊎ ((i ≡ e) × (x ≡ y)) → x.connection ≡ Some n
      → IsConnectedOn (with_editor k e y) owners i x n
  connected i n x (inl kept) on = connected_still k (with_editor k e y) owners i n x (λ d ran. ran) (orderly.connected i n x kept on)
  connected i n x (inr set) on =
      let at : IsConnectedOn k owners e y n = place.connected n (ap (λ (z : KeptEditor). z.connection) (sym set.1) ∙ on) in
      connected_still k (with_editor k e y) owners i n x (λ d ran. ran)
      (subst (λ j. IsConnectedOn k owners j x n) (sym set.0) (subst (λ (z : KeptEditor). IsConnectedOn k owners e z n) (sym set.1) at))

  apart : (i : ℕ) (x : KeptEditor) → (slice_get k.editors i ≡ Some x) ⊎ ((i ≡ e) × (x ≡ y)) → x.connection ≡ None → IsApart x
  apart i x (inl kept) on = orderly.apart i x kept on
  apart i x (inr set) on = subst IsApart (sym set.1) (place.apart (ap (λ (z : KeptEditor). z.connection) (sym set.1) ∙ on))

-- one that is connected does something of its own: its seat is another one
pub seat_set : (k : KeptWorld) (owners : List ℕ) (e n : ℕ) (x : KeptEditor) (s : Seat) → editor_of k e ≡ Some x → x.connection ≡ Some n → IsOrderly k owners
    → IsOrderly (with_seat k e x s) owners
seat_set k owners e n x s at on orderly =
    let y : KeptEditor = record x { seat = s } in
    editor_set k owners e y (record { connected = λ m there. still m (orderly.connected e m x at there); apart = λ off. never off }) orderly where
      still : (m : ℕ) → IsConnectedOn k owners e x m → IsConnectedOn k owners e (record x { seat = s }) m
      still m here = record { own = here.own; owner = here.owner; runs = here.runs }

      never : x.connection ≡ None → IsApart (record x { seat = s })
      never off = let no : Some n ≡ None = sym on ∙ off in cc

-- or that is apart, and goes on to be
pub apart_set : (k : KeptWorld) (owners : List ℕ) (e : ℕ) (y : KeptEditor) → y.connection ≡ None → IsApart y → IsOrderly k owners
    → IsOrderly (with_editor k e y) owners
apart_set k owners e y off apart orderly = editor_set k owners e y (record { connected = λ n on. never n on; apart = λ same. apart }) orderly where
  never : (n : ℕ) → y.connection ≡ Some n → IsConnectedOn k owners e y n
  never n on = let no : None ≡ Some n = sym off ∙ on in cc

cut_is_apart : (x : KeptEditor) → IsApart (cut_off x)
cut_is_apart x = record { closed = refl; up = refl; down = refl }

-- its connection ends
pub editor_cut : (k : KeptWorld) (owners : List ℕ) (e : ℕ) (x : KeptEditor) → IsOrderly k owners → IsOrderly (with_editor k e (cut_off x)) owners
editor_cut k owners e x orderly = apart_set k owners e (cut_off x) refl (cut_is_apart x) orderly

-- ---- a new connection

owner_last : (owners : List ℕ) (e : ℕ) → slice_get (owners ++ e ∷ []) (length owners) ≡ Some e
owner_last [] e = refl
owner_last (o ∷ owners) e = owner_last owners e

-- one more connection is begun, for whomever
pub owner_pushed : (k : KeptWorld) (owners : List ℕ) (e : ℕ) → IsOrderly k owners → IsOrderly k (owners ++ e ∷ [])
owner_pushed k owners e orderly = record {
  connected = λ i n x at on. more n i x (orderly.connected i n x at on);
  apart = orderly.apart;
} where
  more : (n i : ℕ) (x : KeptEditor) → IsConnectedOn k owners i x n → IsConnectedOn k (owners ++ e ∷ []) i x n
  more n i x here = record { own = here.own; owner = at_push owners e (n - FIRST_OWN) i here.owner; runs = here.runs }

-- the editor for which the last one was begun is connected on it
pub newly_connected : (k : KeptWorld) (owners : List ℕ) (e n : ℕ) (x : KeptEditor) → n ≡ FIRST_OWN + length owners → is_some (running k x.daemon) ≡ true
    → IsConnectedOn k (owners ++ e ∷ []) e x n
newly_connected k owners e n x is runs = record {
  own = omega (arith, is);
  owner = ap (slice_get (owners ++ e ∷ [])) (back n is) ∙ owner_last owners e;
  runs = runs;
} where
  back : (m : ℕ) → m ≡ FIRST_OWN + length owners → m - FIRST_OWN ≡ length owners
  back m same = omega (arith, same)

-- an editor has a new connection
pub editor_connected : (k : KeptWorld) (owners : List ℕ) (e n : ℕ) (y : KeptEditor) → y.connection ≡ Some n → n ≡ FIRST_OWN + length owners
    → is_some (running k y.daemon) ≡ true → IsOrderly k owners → IsOrderly (with_editor k e y) (owners ++ e ∷ [])
editor_connected k owners e n y on is runs orderly =
    editor_set k (owners ++ e ∷ []) e y (record { connected = λ m there. here m there; apart = λ off. never off }) (owner_pushed k owners e orderly) where
      here : (m : ℕ) → y.connection ≡ Some m → IsConnectedOn k (owners ++ e ∷ []) e y m
      here m there =
          let same : Some m ≡ Some n = sym there ∙ on in
          let one : m ≡ n = cc in newly_connected k owners e m y (one ∙ is) runs

      never : y.connection ≡ None → IsApart y
      never off = let no : Some n ≡ None = sym on ∙ off in cc

-- one more editor joins on it
pub editor_joined : (k : KeptWorld) (owners : List ℕ) (n : ℕ) (y : KeptEditor) → y.connection ≡ Some n → n ≡ FIRST_OWN + length owners
    → is_some (running k y.daemon) ≡ true → IsOrderly k owners
    → IsOrderly (record k { editors = k.editors ++ y ∷ [] }) (owners ++ length k.editors ∷ [])
editor_joined k owners n y on is runs orderly = record {
  connected = λ i m x at there. connected i m x (pushed_at k.editors y i x at) there;
  apart = λ i x at off. apart i x (pushed_at k.editors y i x at) off;
} where
  connected : (i m : ℕ) (x : KeptEditor) → (slice_get k.editors i ≡ Some x) ⊎ ((i ≡ length k.editors) × (x ≡ y)) → x.connection ≡ Some m
      → IsConnectedOn (record k { editors = k.editors ++ y ∷ [] }) (owners ++ length k.editors ∷ []) i x m
  connected i m x (inl kept) there =
      let at = (owner_pushed k owners (length k.editors) orderly).connected i m x kept there in
      record { own = at.own; owner = at.owner; runs = at.runs }
  connected i m x (inr new) there =
      let same : Some m ≡ Some n = sym there ∙ ap (λ (z : KeptEditor). z.connection) new.1 ∙ on in
      let one : m ≡ n = cc in
      let ran : is_some (running k x.daemon) ≡ true = ap (λ (z : KeptEditor). is_some (running k z.daemon)) new.1 ∙ runs in
      let at = newly_connected k owners (length k.editors) m x (one ∙ is) ran in
      record { own = at.own; owner = ap (slice_get (owners ++ length k.editors ∷ [])) refl ∙ at.owner ∙ ap Some (sym new.0); runs = at.runs }

  apart : (i : ℕ) (x : KeptEditor) → (slice_get k.editors i ≡ Some x) ⊎ ((i ≡ length k.editors) × (x ≡ y)) → x.connection ≡ None → IsApart x
  apart i x (inl kept) off = orderly.apart i x kept off
  apart i x (inr new) off =
      let no : Some n ≡ None = sym on ∙ ap (λ (z : KeptEditor). z.connection) (sym new.1) ∙ off in cc

-- ---- all editors

-- each editor changes, and keeps its place
pub editors_mapped : (k l : KeptWorld) (owners : List ℕ) (f : KeptEditor → KeptEditor) → l.editors ≡ map f k.editors
    → ((e : ℕ) (x : KeptEditor) → HasPlace k owners e x → HasPlace l owners e (f x)) → IsOrderly k owners → IsOrderly l owners
editors_mapped k l owners f is each orderly = record {
  connected = λ e n y at on.
      let from = from_map f k.editors e y (ap (λ (xs : List KeptEditor). slice_get xs e) (sym is) ∙ at) in
      subst (λ (z : KeptEditor). IsConnectedOn l owners e z n) (sym from.was)
      ((each e from.item (place_of k owners e from.item from.there orderly)).connected n (ap (λ (z : KeptEditor). z.connection) (sym from.was) ∙ on));
  apart = λ e y at off.
      let from = from_map f k.editors e y (ap (λ (xs : List KeptEditor). slice_get xs e) (sym is) ∙ at) in
      subst IsApart (sym from.was)
      ((each e from.item (place_of k owners e from.item from.there orderly)).apart (ap (λ (z : KeptEditor). z.connection) (sym from.was) ∙ off));
}

-- they are told of what a daemon sends
told_place : (k l : KeptWorld) (owners : List ℕ) (d : ℕ) (sent : List Output) (e : ℕ) (x : KeptEditor) → RunsStill k l → HasPlace k owners e x
    → HasPlace l owners e (told_editor d sent x)
told_place k l owners d sent e x still place = by (x.daemon == d) where
  on : (c : Option ℕ) → x.connection ≡ c → HasPlace l owners e (received_on c sent x)
  on None is = record {
    connected = λ n there. connected_still k l owners e n x still (place.connected n there);
    apart = place.apart;
  }
  on (Some m) is = record {
    connected = λ n there.
        let at = place.connected n there in record { own = at.own; owner = at.owner; runs = still x.daemon at.runs };
    apart = λ off. never m is off;
  } where
    never : (m : ℕ) → x.connection ≡ Some m → x.connection ≡ None → IsApart (received_on (Some m) sent x)
    never m is off = let no : Some m ≡ None = sym is ∙ off in cc

  by : (b : Bool) → HasPlace l owners e (if b then received_on x.connection sent x else x)
  by true = on x.connection refl
  by false = record { connected = λ n there. connected_still k l owners e n x still (place.connected n there); apart = place.apart }

pub editors_told : (k : KeptWorld) (owners : List ℕ) (d : ℕ) (sent : List Output) → IsOrderly k owners
    → IsOrderly (record k { editors = map (told_editor d sent) k.editors }) owners
editors_told k owners d sent orderly =
    editors_mapped k (record k { editors = map (told_editor d sent) k.editors }) owners (told_editor d sent) refl
    (λ e x place. told_place k (record k { editors = map (told_editor d sent) k.editors }) owners d sent e x (λ i ran. ran) place) orderly

-- a daemon stops
lost_place : (k : KeptWorld) (owners : List ℕ) (d e : ℕ) (x : KeptEditor) → HasPlace k owners e x → HasPlace (without_host k d) owners e (lost_with d x)
lost_place k owners d e x place = by (x.daemon == d) refl where
  by : (b : Bool) → (x.daemon == d) ≡ b → HasPlace (without_host k d) owners e (if b then cut_off x else x)
  by true here = record { connected = λ n on. never n on; apart = λ off. cut_is_apart x } where
    never : (n : ℕ) → None ≡ Some n → IsConnectedOn (without_host k d) owners e (cut_off x) n
    never n on = cc
  by false elsewhere = record {
    connected = λ n on.
        let at = place.connected n on in
        record {
          own = at.own;
          owner = at.owner;
          runs = ap is_some (running_beside k (without_host k d) d x.daemon None (eqb-false x.daemon d elsewhere) refl) ∙ at.runs;
        };
    apart = place.apart;
  }

pub daemon_stopped : (k : KeptWorld) (owners : List ℕ) (d : ℕ) → IsOrderly k owners → IsOrderly (without_host k d) owners
daemon_stopped k owners d orderly =
    editors_mapped k (without_host k d) owners (lost_with d) refl (λ e x place. lost_place k owners d e x place) orderly

-- before the first move
pub none_in_order : (k : KeptWorld) → k.editors ≡ [] → IsOrderly k []
none_in_order k none = record {
  connected = λ e n x at on. let no : None ≡ Some x = ap (λ (xs : List KeptEditor). slice_get xs e) (sym none) ∙ at in cc;
  apart = λ e x at on. let no : None ≡ Some x = ap (λ (xs : List KeptEditor). slice_get xs e) (sym none) ∙ at in cc;
}

-- ---- what stands where

pub runs_within : (k : KeptWorld) (d : ℕ) → is_some (running k d) ≡ true → d < length k.hosts
runs_within k d runs =
    let host = there (running k d) runs in slice_get_within k.hosts d (Some host.item) (running_at k d host.item host.is)

-- the daemon that is read there
pub runs_at : (k : KeptWorld) (d : ℕ) (o : Option KeptHost) (h : KeptHost) → is_some (running k d) ≡ true → o ≡ get_or k.hosts d o → o ≡ Some h
    → slice_get k.hosts d ≡ Some (Some h)
runs_at k d o h runs read is = got k.hosts d o (runs_within k d runs) read ∙ ap Some is

pub sits_within : (k : KeptWorld) (e : ℕ) → is_some (editor_of k e) ≡ true → e < length k.editors
sits_within k e sits = let editor = there (editor_of k e) sits in slice_get_within k.editors e editor.item editor.is

-- the editor that is read there
pub sits_at : (k : KeptWorld) (e : ℕ) (x : KeptEditor) → is_some (editor_of k e) ≡ true → x ≡ get_or k.editors e x → editor_of k e ≡ Some x
sits_at k e x sits read = got k.editors e x (sits_within k e sits) read

-- an editor is replaced by itself
pub editor_same : (k : KeptWorld) (owners : List ℕ) (e : ℕ) (x y : KeptEditor) → editor_of k e ≡ Some x → y ≡ x → IsOrderly k owners
    → IsOrderly (with_editor k e y) owners
editor_same k owners e x y at same orderly =
    editor_set k owners e y (subst (HasPlace k owners e) (sym same) (place_of k owners e x at orderly)) orderly

-- what a vector has once all its elements were changed
pub written_back : {A : Type 0} (f : A → A) (xs ys : List A) (n : ℕ) → ys ≡ map f xs → n ≡ length xs → take n (ys ++ drop (length ys) xs) ≡ map f xs
written_back f xs ys n is long =
    let same : length ys ≡ length xs = ap length is ∙ length-map xs f in
    ap (λ rest. take n (ys ++ rest)) (drop_all (length ys) xs (omega (arith, same)))
    ∙ ap (take n) (append-nil ys)
    ∙ take_all n ys (omega (arith, same, long))
    ∙ is
