-- Whether nine lists have room, by their lengths alone.
use Rattle.std.specs.Prelude.{Bool, ◌&&◌, ℕ, leb}

-- lists of these lengths have room for a accepting locations, n transitions and g tests
unfoldable pub enough : (a n g accepting sources targets events starts test_counts timers codes constants : ℕ) → Bool
enough a n g accepting sources targets events starts test_counts timers codes constants =
    leb a accepting
    && (leb n sources
    && (leb n targets
    && (leb n events
    && (leb n starts
    && (leb n test_counts
    && (leb g timers
    && (leb g codes
    && leb g constants)))))))
