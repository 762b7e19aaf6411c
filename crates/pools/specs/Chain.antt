-- The updates of one variable: those of the pool that its links lead through, newest first. Assumes nothing.
-- A link is a place counted from 1, and 0 is none. Only links that lead down are followed, so the walk ends on any content.
use Rattle.std.specs.Prelude.{ℕ, zero, suc, List, [], ◌∷◌, map, ℤ, pos, length, get_or, set, replicate, ltb, leb, eqb}
use Rattle.domains.specs.Choice.{pick}
use Rattle.pools.specs.declared.Update.{Update}
use Rattle.pools.specs.declared.Pool.{Pool}
use Rattle.pools.specs.declared.walks.Updates.{Updates}

-- a blank place
abbrev pub no_update : Update
no_update = record { value = pos 0; position = record { 0 = 0 }; previous = 0 }

-- a pool with nothing in it
unfoldable pub no_updates : Pool
no_updates = record { updates = replicate 1024 no_update; length = 0 }

-- a pool with one update more, if there is room
unfoldable pub pushed : Pool → Update → Pool
pushed p u = pick (ltb p.length 1024) (record { updates = set p.updates p.length u; length = suc p.length }) p

-- the updates from a link on, among the first n places
unfoldable pub chain : List Update → ℕ → ℕ → List Update
chain cells zero link = []
chain cells (suc i) link =
    pick (eqb link (suc i)) (get_or cells i no_update ∷ chain cells i (get_or cells i no_update).previous) (chain cells i link)

-- the updates from a link on
abbrev pub chain_of : List Update → ℕ → List Update
chain_of cells link = chain cells 1024 link

-- their values
abbrev pub values_of : List Update → List ℤ
values_of us = map (λ (u : Update). u.value) us

-- those at or before a position of the trail
abbrev pub up_to : List Update → ℕ → List Update
up_to [] p = []
up_to (u ∷ us) p = pick (leb u.position.0 p) (u ∷ up_to us p) (up_to us p)

-- the newest's value; another where there is none
abbrev pub newest_or : List Update → ℤ → ℤ
newest_or [] otherwise = otherwise
newest_or (u ∷ us) otherwise = u.value

-- the updates that are left of a walk
unfoldable pub left : Updates → List Update
left w = chain w.places.now (length w.places.now) w.link
