-- Worked runs that the machine accepts.
use Rattle.std.proofs.Common.{◌≡◌, ℕ, ◌+◌, ◌<◌, ◌≤◌, false, List, [], ◌∷◌, ◌++◌, Some, None, refl, arith, inl, inr}
use Rattle.bcv_base.specs.Image.{Page}
use Rattle.bcv_model.specs.declared.reply.Reply.TheVariants as reply
use Rattle.bcv_machine.specs.State.{State}
use Rattle.bcv_machine.specs.Scripts.{Line, Plays, contends, is_contended, numbers_read, loses_an_answer, is_resolved, goes_on_reading, crashes_later, crashes_in_a_commit, comes_up_without, comes_up_with, id_of, holds_one, holds_two, is_not_held, commits_twice, conflicts, gives_up, replaces, finds_nothing, cleans_up, reads_again, is_gone, is_about_to_put, crashes_after_put, crashes_before_put, comes_up_pending, is_voided}

-- a version read is not the last one once there is one more
pub rises : (n : ℕ) → n < n + 1
rises n = omega arith

pub both_held : 2 ≤ 2
both_held = omega arith

two : 2 ≤ 2
two = omega arith

few : 2 ≤ 65
few = omega arith

passed : 100 ≤ 100
passed = omega arith

pub contended : (p : Page) → (b : State) × Plays (contends p ++ is_contended numbers_read) b
contended p = (
  _,
  (
    _,
    ((refl, tt), (_, (refl, (record { len = refl; bytes = refl }, refl, (refl, refl, refl))), refl)),
    (
      _,
      (tt, (_, (_, _, ((refl, refl), (refl, refl), refl), refl), refl)),
      (
        _,
        ((refl, tt), (_, (refl, (record { len = refl; bytes = refl }, refl, (refl, refl, refl))), refl)),
        (
          _,
          (tt, (_, (_, _, (refl, (refl, refl, refl, refl)), refl), refl)),
          (
            _,
            (tt, (_, (_, _, (refl, (refl, refl, refl)), refl), refl)),
            (
              _,
              (tt, (_, (_, _, ((refl, refl), (refl, refl), refl), refl), refl)),
              (
                _,
                ((refl, tt), (_, (refl, (record { len = refl; bytes = refl }, refl, (refl, refl, refl))), refl)),
                (
                  _,
                  (tt, (_, (_, _, (refl, (refl, refl, refl, refl)), refl), refl)),
                  (
                    _,
                    ((refl, tt), (_, (refl, (record { len = refl; bytes = refl }, refl, (refl, refl, refl))), refl)),
                    (
                      _,
                      (tt, (_, (_, _, (refl, (refl, refl, refl, refl)), refl), refl)),
                      (
                        _,
                        (tt, (_, (_, _, ((refl, refl), (refl, refl), refl), refl), refl)),
                        (
                          _,
                          (tt, (_, (_, _, (rises 2, (refl, refl, refl, refl)), refl), refl)),
                          (
                            _,
                            (tt, (_, (_, _, (refl, (refl, refl, refl, refl)), refl), refl)),
                            (
                              _,
                              ((refl, tt), (_, (refl, (record { len = refl; bytes = refl }, refl, (refl, refl, refl))), refl)),
                              (
                                _,
                                (tt, (_, (_, _, (refl, (refl, refl, refl, refl)), refl), refl)),
                                (
                                  _,
                                  (tt, (_, (_, _, ((refl, refl), (refl, refl), refl), refl), refl)),
                                  (
                                    _,
                                    (tt, (_, (_, _, (rises 3, (refl, refl, refl, refl)), refl), refl)),
                                    (
                                      _,
                                      (tt, (_, (_, _, (refl, (refl, refl, refl, refl)), refl), refl)),
                                      (
                                        _,
                                        ((refl, tt), (_, (refl, (record { len = refl; bytes = refl }, refl, (refl, refl, refl))), refl)),
                                        (
                                          _,
                                          (tt, (_, (_, _, (refl, (refl, refl, refl, refl)), refl), refl)),
                                          (
                                            _,
                                            (tt, (_, (_, _, ((refl, refl), (refl, refl), refl), refl), refl)),
                                            (
                                              _,
                                              (tt, (_, (_, _, (rises 4, (refl, refl, refl, refl)), refl), refl)),
                                              (
                                                _,
                                                (tt, (_, (_, _, (refl, (refl, refl, refl, refl)), refl), refl)),
                                                (
                                                  _,
                                                  ((refl, tt), (_, (refl, (record { len = refl; bytes = refl }, refl, (refl, refl, refl))), refl)),
                                                  (
                                                    _,
                                                    (tt, (_, (_, _, (refl, (refl, refl, refl, refl)), refl), refl)),
                                                    (
                                                      _,
                                                      (tt, (_, (_, _, ((refl, refl), (refl, refl), refl), refl), refl)),
                                                      (
                                                        _,
                                                        (tt, (_, (_, _, (rises 5, (refl, refl, refl, refl)), refl), refl)),
                                                        (
                                                          _,
                                                          (tt, (_, (_, _, (refl, (refl, refl, refl, refl)), refl), refl)),
                                                          (
                                                            _,
                                                            ((refl, tt), (_, (refl, (record { len = refl; bytes = refl }, refl, (refl, refl, refl))), refl)),
                                                            (
                                                              _,
                                                              (tt, (_, (_, _, (refl, (refl, refl, refl, refl)), refl), refl)),
                                                              (
                                                                _,
                                                                (tt, (_, (_, _, ((refl, refl), (refl, refl), refl), refl), refl)),
                                                                (
                                                                  _,
                                                                  (tt, (_, (_, _, (rises 6, (refl, refl, refl, refl)), refl), refl)),
                                                                  (
                                                                    _,
                                                                    (tt, (_, (_, _, (refl, (refl, refl, refl, refl)), refl), refl)),
                                                                    (
                                                                      _,
                                                                      ((refl, tt), (_, (refl, (record { len = refl; bytes = refl }, refl, (refl, refl, refl))), refl)),
                                                                      (
                                                                        _,
                                                                        (tt, (_, (_, _, (refl, (refl, refl, refl, refl)), refl), refl)),
                                                                        (
                                                                          _,
                                                                          (tt, (_, (_, _, ((refl, refl), (refl, refl), refl), refl), refl)),
                                                                          (
                                                                            _,
                                                                            (tt, (_, (_, _, (rises 7, (refl, refl, refl, refl)), refl), refl)),
                                                                            (
                                                                              _,
                                                                              (tt, (_, (_, _, (refl, (refl, refl, refl, refl)), refl), refl)),
                                                                              (
                                                                                _,
                                                                                ((refl, tt), (_, (refl, (record { len = refl; bytes = refl }, refl, (refl, refl, refl))), refl)),
                                                                                (
                                                                                  _,
                                                                                  (tt, (_, (_, _, (refl, (refl, refl, refl, refl)), refl), refl)),
                                                                                  (
                                                                                    _,
                                                                                    (tt, (_, (_, _, ((refl, refl), (refl, refl), refl), refl), refl)),
                                                                                    (
                                                                                      _,
                                                                                      (tt, (_, (_, _, (rises 8, (refl, refl, refl, refl)), refl), refl)),
                                                                                      (
                                                                                        _,
                                                                                        (tt, (_, (_, _, (refl, (refl, refl, refl, refl)), refl), refl)),
                                                                                        (
                                                                                          _,
                                                                                          ((refl, tt), (_, (refl, (record { len = refl; bytes = refl }, refl, (refl, refl, refl))), refl)),
                                                                                          (
                                                                                            _,
                                                                                            (tt, (_, (_, _, (refl, (refl, refl, refl, refl)), refl), refl)),
                                                                                            (
                                                                                              _,
                                                                                              (tt, (_, (_, _, ((refl, refl), (refl, refl), refl), refl), refl)),
                                                                                              (
                                                                                                _,
                                                                                                (tt, (_, (_, _, (rises 9, (refl, (refl, refl), refl)), refl), refl)),
                                                                                                refl,
                                                                                              ),
                                                                                            ),
                                                                                          ),
                                                                                        ),
                                                                                      ),
                                                                                    ),
                                                                                  ),
                                                                                ),
                                                                              ),
                                                                            ),
                                                                          ),
                                                                        ),
                                                                      ),
                                                                    ),
                                                                  ),
                                                                ),
                                                              ),
                                                            ),
                                                          ),
                                                        ),
                                                      ),
                                                    ),
                                                  ),
                                                ),
                                              ),
                                            ),
                                          ),
                                        ),
                                      ),
                                    ),
                                  ),
                                ),
                              ),
                            ),
                          ),
                        ),
                      ),
                    ),
                  ),
                ),
              ),
            ),
          ),
        ),
      ),
    ),
  ),
)

pub resolved : (b : State) × Plays (loses_an_answer ++ is_resolved ++ goes_on_reading) b
resolved = (
  _,
  (
    _,
    ((refl, tt), (_, (refl, (record { len = refl; bytes = refl }, refl, (refl, refl, refl))), refl)),
    (
      _,
      (tt, (_, (_, _, ((refl, refl), (refl, refl), refl), refl), refl)),
      (
        _,
        ((refl, tt), (_, (refl, (record { len = refl; bytes = refl }, refl, (refl, refl, refl))), refl)),
        (
          _,
          (tt, (_, (_, _, (refl, (refl, refl, refl, refl)), refl), refl)),
          (
            _,
            (tt, (_, (_, _, (refl, (refl, refl, refl)), refl), refl)),
            (
              _,
              (tt, (_, (_, _, ((refl, refl), (refl, refl), refl), refl), refl)),
              (
                _,
                (tt, (_, (refl, refl), refl)),
                (
                  _,
                  ((refl, tt), (_, (refl, (record { len = refl; bytes = refl }, refl, (refl, refl, refl))), refl)),
                  (
                    _,
                    (tt, (_, (_, _, (refl, (refl, refl, refl, refl)), refl), refl)),
                    (
                      _,
                      (tt, (_, (_, _, (refl, (inr (refl, refl), refl, refl)), refl), refl)),
                      (
                        _,
                        (tt, (_, (_, _, ((refl, refl), (refl, refl, refl)), refl), refl)),
                        (
                          _,
                          (tt, (_, (refl, (refl, refl, refl)), refl)),
                          (
                            _,
                            (tt, (_, (refl, (refl, refl)), refl)),
                            (
                              _,
                              (tt, (_, (refl, refl), refl)),
                              (
                                _,
                                ((refl, tt), (_, (refl, (record { len = refl; bytes = refl }, refl, (refl, refl, refl))), refl)),
                                (
                                  _,
                                  (tt, (_, (_, _, (refl, (refl, refl, refl, refl)), refl), refl)),
                                  (
                                    _,
                                    (tt, (_, (_, _, (refl, (inr (refl, refl), refl, refl)), refl), refl)),
                                    (
                                      _,
                                      (tt, (_, (_, _, ((refl, refl), (refl, refl), refl), refl), refl)),
                                      (
                                        _,
                                        (tt, (_, (refl, refl), refl)),
                                        (
                                          _,
                                          ((refl, tt), (_, (refl, (record { len = refl; bytes = refl }, refl, (refl, refl, refl))), refl)),
                                          (
                                            _,
                                            (tt, (_, (_, _, (refl, (refl, refl, refl, refl)), refl), refl)),
                                            (
                                              _,
                                              (tt, (_, (_, _, (refl, (inr (refl, refl), refl, refl)), refl), refl)),
                                              (
                                                _,
                                                (tt, (_, (_, _, ((refl, refl), (refl, refl), refl), refl), refl)),
                                                (
                                                  _,
                                                  (tt, (_, (refl, (refl, refl)), refl)),
                                                  (
                                                    _,
                                                    (tt, (_, (refl, (refl, refl, refl)), refl)),
                                                    (
                                                      _,
                                                      (tt, (_, (refl, (refl, refl)), refl)),
                                                      (
                                                        _,
                                                        (tt, (_, (refl, (refl, refl, refl)), refl)),
                                                        (
                                                          _,
                                                          (tt, (_, (refl, (refl, refl, refl)), refl)),
                                                          (
                                                            _,
                                                            (tt, (_, (refl, (refl, refl)), refl)),
                                                            (
                                                              _,
                                                              (tt, (_, (refl, (refl, refl)), refl)),
                                                              (
                                                                _,
                                                                (tt, (_, (refl, (refl, refl, refl, refl, refl)), refl)),
                                                                (
                                                                  _,
                                                                  (tt, (_, (refl, (refl, refl)), refl)),
                                                                  refl,
                                                                ),
                                                              ),
                                                            ),
                                                          ),
                                                        ),
                                                      ),
                                                    ),
                                                  ),
                                                ),
                                              ),
                                            ),
                                          ),
                                        ),
                                      ),
                                    ),
                                  ),
                                ),
                              ),
                            ),
                          ),
                        ),
                      ),
                    ),
                  ),
                ),
              ),
            ),
          ),
        ),
      ),
    ),
  ),
)

pub kept : (b : State) × Plays (crashes_later ++ comes_up_with 1) b
kept = (
  _,
  (
    _,
    ((refl, tt), (_, (refl, (record { len = refl; bytes = refl }, refl, (refl, refl, refl))), refl)),
    (
      _,
      (tt, (_, (_, _, ((refl, refl), (refl, refl), refl), refl), refl)),
      (
        _,
        ((refl, tt), (_, (refl, (record { len = refl; bytes = refl }, refl, (refl, refl, refl))), refl)),
        (
          _,
          (tt, (_, (_, _, (refl, (refl, refl, refl, refl)), refl), refl)),
          (
            _,
            (tt, (_, (_, _, (refl, (refl, refl, refl)), refl), refl)),
            (
              _,
              (tt, (_, (_, _, ((refl, refl), (refl, refl), refl), refl), refl)),
              (
                _,
                (tt, (_, (refl, refl), refl)),
                (
                  _,
                  (tt, (_, (refl, refl), refl)),
                  (
                    _,
                    (tt, (_, (refl, (_, refl, refl, refl, refl)), refl)),
                    refl,
                  ),
                ),
              ),
            ),
          ),
        ),
      ),
    ),
  ),
)

pub without : (calls image : ℕ) → (b : State) × Plays (crashes_in_a_commit calls image ++ comes_up_without) b
without calls image = (
  _,
  (
    _,
    ((refl, tt), (_, (refl, (record { len = refl; bytes = refl }, refl, (refl, refl, refl))), refl)),
    (
      _,
      (tt, (_, (_, _, ((refl, refl), (refl, refl), refl), refl), refl)),
      (
        _,
        ((refl, tt), (_, (refl, (record { len = refl; bytes = refl }, refl, (refl, refl, refl))), refl)),
        (
          _,
          (tt, (_, (_, _, (refl, (refl, refl, refl, refl)), refl), refl)),
          (
            _,
            (tt, (_, (_, _, (refl, (refl, refl, refl)), refl), refl)),
            (
              _,
              (tt, (_, (_, _, ((refl, refl), (refl, refl), refl), refl), refl)),
              (
                _,
                (tt, (_, (refl, refl), refl)),
                (
                  _,
                  (tt, (_, (refl, (refl, (refl, refl))), refl)),
                  (
                    _,
                    (tt, (_, (refl, (_, inl refl, refl, refl, refl)), refl)),
                    refl,
                  ),
                ),
              ),
            ),
          ),
        ),
      ),
    ),
  ),
)

pub with : (calls image : ℕ) → (b : State) × Plays (crashes_in_a_commit calls image ++ comes_up_with 1) b
with calls image = (
  _,
  (
    _,
    ((refl, tt), (_, (refl, (record { len = refl; bytes = refl }, refl, (refl, refl, refl))), refl)),
    (
      _,
      (tt, (_, (_, _, ((refl, refl), (refl, refl), refl), refl), refl)),
      (
        _,
        ((refl, tt), (_, (refl, (record { len = refl; bytes = refl }, refl, (refl, refl, refl))), refl)),
        (
          _,
          (tt, (_, (_, _, (refl, (refl, refl, refl, refl)), refl), refl)),
          (
            _,
            (tt, (_, (_, _, (refl, (refl, refl, refl)), refl), refl)),
            (
              _,
              (tt, (_, (_, _, ((refl, refl), (refl, refl), refl), refl), refl)),
              (
                _,
                (tt, (_, (refl, refl), refl)),
                (
                  _,
                  (tt, (_, (refl, (refl, (refl, refl))), refl)),
                  (
                    _,
                    (tt, (_, (refl, (_, inr refl, refl, refl, refl)), refl)),
                    refl,
                  ),
                ),
              ),
            ),
          ),
        ),
      ),
    ),
  ),
)

pub pinned : (b : State) × Plays (holds_one ++ holds_two ++ is_not_held) b
pinned = (
  _,
  (
    _,
    ((refl, tt), (_, (refl, (record { len = refl; bytes = refl }, refl, (refl, refl, refl))), refl)),
    (
      _,
      (tt, (_, (_, _, ((refl, refl), (refl, refl), refl), refl), refl)),
      (
        _,
        ((refl, tt), (_, (refl, (record { len = refl; bytes = refl }, refl, (refl, refl, refl))), refl)),
        (
          _,
          (tt, (_, (_, _, (refl, (refl, refl, refl, refl)), refl), refl)),
          (
            _,
            (tt, (_, (_, _, (refl, (refl, refl, refl)), refl), refl)),
            (
              _,
              (tt, (_, (_, _, (refl, (refl, refl, refl)), refl), refl)),
              (
                _,
                (tt, (_, (_, _, (refl, (refl, refl, refl)), refl), refl)),
                (
                  _,
                  (tt, (_, (_, _, ((refl, refl), (refl, refl), refl), refl), refl)),
                  (
                    _,
                    (tt, (_, (refl, (refl, refl)), refl)),
                    (
                      _,
                      (tt, (_, (refl, (refl, refl, refl, refl, refl)), refl)),
                      (
                        _,
                        (tt, (_, (refl, refl), refl)),
                        (
                          _,
                          (tt, (_, (refl, (refl, refl, refl, refl, refl)), refl)),
                          (
                            _,
                            (tt, (_, (refl, refl), refl)),
                            (
                              _,
                              (tt, (_, (refl, (refl, both_held, refl)), refl)),
                              (
                                _,
                                (tt, (_, (refl, refl), refl)),
                                (
                                  _,
                                  (tt, (_, (refl, (refl, refl, refl, refl, refl)), refl)),
                                  (
                                    _,
                                    (tt, (_, (refl, (refl, refl)), refl)),
                                    (
                                      _,
                                      (tt, (_, (refl, (refl, refl)), refl)),
                                      (
                                        _,
                                        (tt, (_, (refl, (refl, refl, refl, refl, refl)), refl)),
                                        (
                                          _,
                                          (tt, (_, (refl, refl), refl)),
                                          (
                                            _,
                                            (tt, (_, (refl, (refl, refl)), refl)),
                                            (
                                              _,
                                              (tt, (_, (refl, (refl, refl)), refl)),
                                              refl,
                                            ),
                                          ),
                                        ),
                                      ),
                                    ),
                                  ),
                                ),
                              ),
                            ),
                          ),
                        ),
                      ),
                    ),
                  ),
                ),
              ),
            ),
          ),
        ),
      ),
    ),
  ),
)

pub conflicted : (b : State) × Plays (commits_twice ++ conflicts 4 6 ++ gives_up) b
conflicted = (
  _,
  (
    _,
    ((refl, tt), (_, (refl, (record { len = refl; bytes = refl }, refl, (refl, refl, refl))), refl)),
    (
      _,
      (tt, (_, (_, _, ((refl, refl), (refl, refl), refl), refl), refl)),
      (
        _,
        ((refl, tt), (_, (refl, (record { len = refl; bytes = refl }, refl, (refl, refl, refl))), refl)),
        (
          _,
          (tt, (_, (_, _, (refl, (refl, refl, refl, refl)), refl), refl)),
          (
            _,
            (tt, (_, (_, _, (refl, (refl, refl, refl)), refl), refl)),
            (
              _,
              (tt, (_, (_, _, ((refl, refl), (refl, refl), refl), refl), refl)),
              (
                _,
                (tt, (_, (refl, (refl, refl, refl)), refl)),
                (
                  _,
                  (tt, (_, (refl, (refl, refl)), refl)),
                  (
                    _,
                    (tt, (_, (refl, refl), refl)),
                    (
                      _,
                      (tt, (_, (refl, refl), refl)),
                      (
                        _,
                        ((refl, tt), (_, (refl, (record { len = refl; bytes = refl }, refl, (refl, refl, refl))), refl)),
                        (
                          _,
                          (tt, (_, (_, _, (refl, (refl, refl, refl, refl)), refl), refl)),
                          (
                            _,
                            (tt, (_, (_, _, (refl, (inr (refl, refl), refl, refl)), refl), refl)),
                            (
                              _,
                              (tt, (_, (_, _, ((refl, refl), (refl, refl), refl), refl), refl)),
                              (
                                _,
                                ((refl, tt), (_, (refl, (record { len = refl; bytes = refl }, refl, (refl, refl, refl))), refl)),
                                (
                                  _,
                                  (tt, (_, (_, _, (refl, ((reply.Conflict (id_of 4) (id_of 6), refl, (refl, refl)), refl)), refl), refl)),
                                  (
                                    _,
                                    (tt, (_, (refl, refl), refl)),
                                    (
                                      _,
                                      (tt, (_, (refl, (refl, refl, refl)), refl)),
                                      (
                                        _,
                                        (tt, (_, (refl, (refl, refl)), refl)),
                                        (
                                          _,
                                          (tt, (_, (refl, (refl, refl)), refl)),
                                          (
                                            _,
                                            (tt, (_, (refl, (refl, refl, refl, refl, refl)), refl)),
                                            (
                                              _,
                                              (tt, (_, (refl, (refl, refl)), refl)),
                                              refl,
                                            ),
                                          ),
                                        ),
                                      ),
                                    ),
                                  ),
                                ),
                              ),
                            ),
                          ),
                        ),
                      ),
                    ),
                  ),
                ),
              ),
            ),
          ),
        ),
      ),
    ),
  ),
)

pub nothing_found : (b : State) × Plays (replaces 99 ++ finds_nothing) b
nothing_found = (
  _,
  (
    _,
    ((refl, tt), (_, (refl, (record { len = refl; bytes = refl }, refl, (refl, refl, refl))), refl)),
    (
      _,
      (tt, (_, (_, _, ((refl, refl), (refl, refl), refl), refl), refl)),
      (
        _,
        ((refl, tt), (_, (refl, (record { len = refl; bytes = refl }, refl, (refl, refl, refl))), refl)),
        (
          _,
          (tt, (_, (_, _, (refl, (refl, refl, refl, refl)), refl), refl)),
          (
            _,
            (tt, (_, (_, _, (refl, (refl, refl, refl)), refl), refl)),
            (
              _,
              (tt, (_, (_, _, ((refl, refl), (refl, refl), refl), refl), refl)),
              (
                _,
                (tt, (_, (refl, (refl, refl, refl)), refl)),
                (
                  _,
                  (tt, (_, (refl, (refl, refl)), refl)),
                  (
                    _,
                    (tt, (_, (refl, (refl, refl)), refl)),
                    (
                      _,
                      (tt, (_, (refl, refl), refl)),
                      (
                        _,
                        ((refl, tt), (_, (refl, (record { len = refl; bytes = refl }, refl, (refl, refl, refl))), refl)),
                        (
                          _,
                          (tt, (_, (_, _, (refl, (refl, refl, refl, refl)), refl), refl)),
                          (
                            _,
                            (tt, (_, (_, _, (refl, (inr (refl, refl), refl, refl)), refl), refl)),
                            (
                              _,
                              (tt, (_, (_, _, ((refl, refl), (refl, refl), refl), refl), refl)),
                              (
                                _,
                                ((refl, refl), refl),
                                (
                                  _,
                                  ((refl, tt), (_, (refl, (record { len = refl; bytes = refl }, refl, (refl, refl, refl))), refl)),
                                  (
                                    _,
                                    (tt, (_, (_, _, (refl, ((reply.Cleaned 0 false, (refl, refl, refl, refl), (refl, refl)), refl)), refl), refl)),
                                    refl,
                                  ),
                                ),
                              ),
                            ),
                          ),
                        ),
                      ),
                    ),
                  ),
                ),
              ),
            ),
          ),
        ),
      ),
    ),
  ),
)

pub cleaned : (b : State) × Plays (replaces 100 ++ cleans_up ++ reads_again ++ is_gone) b
cleaned = (
  _,
  (
    _,
    ((refl, tt), (_, (refl, (record { len = refl; bytes = refl }, refl, (refl, refl, refl))), refl)),
    (
      _,
      (tt, (_, (_, _, ((refl, refl), (refl, refl), refl), refl), refl)),
      (
        _,
        ((refl, tt), (_, (refl, (record { len = refl; bytes = refl }, refl, (refl, refl, refl))), refl)),
        (
          _,
          (tt, (_, (_, _, (refl, (refl, refl, refl, refl)), refl), refl)),
          (
            _,
            (tt, (_, (_, _, (refl, (refl, refl, refl)), refl), refl)),
            (
              _,
              (tt, (_, (_, _, ((refl, refl), (refl, refl), refl), refl), refl)),
              (
                _,
                (tt, (_, (refl, (refl, refl, refl)), refl)),
                (
                  _,
                  (tt, (_, (refl, (refl, refl)), refl)),
                  (
                    _,
                    (tt, (_, (refl, (refl, refl)), refl)),
                    (
                      _,
                      (tt, (_, (refl, refl), refl)),
                      (
                        _,
                        ((refl, tt), (_, (refl, (record { len = refl; bytes = refl }, refl, (refl, refl, refl))), refl)),
                        (
                          _,
                          (tt, (_, (_, _, (refl, (refl, refl, refl, refl)), refl), refl)),
                          (
                            _,
                            (tt, (_, (_, _, (refl, (inr (refl, refl), refl, refl)), refl), refl)),
                            (
                              _,
                              (tt, (_, (_, _, ((refl, refl), (refl, refl), refl), refl), refl)),
                              (
                                _,
                                ((refl, refl), refl),
                                (
                                  _,
                                  ((refl, tt), (_, (refl, (record { len = refl; bytes = refl }, refl, (refl, refl, refl))), refl)),
                                  (
                                    _,
                                    (tt, (_, (_, _, (refl, (refl, (two, few, inl passed), refl, refl)), refl), refl)),
                                    (
                                      _,
                                      (tt, (_, (_, _, (refl, (refl, refl, refl)), refl), refl)),
                                      (
                                        _,
                                        (tt, (_, (_, _, ((refl, refl), (refl, refl), refl), refl), refl)),
                                        (
                                          _,
                                          (tt, (_, (refl, (refl, refl, refl, refl, refl)), refl)),
                                          (
                                            _,
                                            (tt, (_, (refl, (refl, record { later = 3; is_later = rises 2; version = _; is_version = refl; old = _; is_old = refl; is_lacking = refl; deleted = 100; is_greatest = refl; is_past = passed }, refl)), refl)),
                                            refl,
                                          ),
                                        ),
                                      ),
                                    ),
                                  ),
                                ),
                              ),
                            ),
                          ),
                        ),
                      ),
                    ),
                  ),
                ),
              ),
            ),
          ),
        ),
      ),
    ),
  ),
)

pub resolved_after_crash : (calls image : ℕ) → (b : State) × Plays (is_about_to_put calls image ++ crashes_after_put ++ comes_up_pending ++ is_resolved) b
resolved_after_crash calls image = (
  _,
  (
    _,
    ((refl, tt), (_, (refl, (record { len = refl; bytes = refl }, refl, (refl, refl, refl))), refl)),
    (
      _,
      (tt, (_, (_, _, ((refl, refl), (refl, refl), refl), refl), refl)),
      (
        _,
        ((refl, tt), (_, (refl, (record { len = refl; bytes = refl }, refl, (refl, refl, refl))), refl)),
        (
          _,
          (tt, (_, (_, _, (refl, (refl, refl, refl, refl)), refl), refl)),
          (
            _,
            (tt, (_, (_, _, (refl, (refl, refl, refl)), refl), refl)),
            (
              _,
              (tt, (_, (_, _, ((refl, refl), (refl, refl), refl), refl), refl)),
              (
                _,
                (tt, (_, (refl, refl), refl)),
                (
                  _,
                  ((refl, tt), (_, (refl, (record { len = refl; bytes = refl }, refl, (refl, refl, refl))), refl)),
                  (
                    _,
                    (tt, (_, (_, _, (refl, (refl, refl, refl, refl)), refl), refl)),
                    (
                      _,
                      (tt, (_, (_, _, (refl, (inr (refl, refl), refl, refl)), refl), refl)),
                      (
                        _,
                        (tt, (_, (refl, refl), refl)),
                        (
                          _,
                          (tt, (_, (_, _, ((refl, refl), (refl, (refl, refl)), refl), refl), refl)),
                          (
                            _,
                            (tt, (_, (refl, (_, inl refl, refl, refl, refl)), refl)),
                            (
                              _,
                              (tt, (_, (refl, (refl, refl, refl)), refl)),
                              (
                                _,
                                (tt, (_, (refl, (refl, refl)), refl)),
                                refl,
                              ),
                            ),
                          ),
                        ),
                      ),
                    ),
                  ),
                ),
              ),
            ),
          ),
        ),
      ),
    ),
  ),
)

pub done_after_crash : (calls image : ℕ) → (b : State) × Plays (is_about_to_put calls image ++ crashes_after_put ++ comes_up_without) b
done_after_crash calls image = (
  _,
  (
    _,
    ((refl, tt), (_, (refl, (record { len = refl; bytes = refl }, refl, (refl, refl, refl))), refl)),
    (
      _,
      (tt, (_, (_, _, ((refl, refl), (refl, refl), refl), refl), refl)),
      (
        _,
        ((refl, tt), (_, (refl, (record { len = refl; bytes = refl }, refl, (refl, refl, refl))), refl)),
        (
          _,
          (tt, (_, (_, _, (refl, (refl, refl, refl, refl)), refl), refl)),
          (
            _,
            (tt, (_, (_, _, (refl, (refl, refl, refl)), refl), refl)),
            (
              _,
              (tt, (_, (_, _, ((refl, refl), (refl, refl), refl), refl), refl)),
              (
                _,
                (tt, (_, (refl, refl), refl)),
                (
                  _,
                  ((refl, tt), (_, (refl, (record { len = refl; bytes = refl }, refl, (refl, refl, refl))), refl)),
                  (
                    _,
                    (tt, (_, (_, _, (refl, (refl, refl, refl, refl)), refl), refl)),
                    (
                      _,
                      (tt, (_, (_, _, (refl, (inr (refl, refl), refl, refl)), refl), refl)),
                      (
                        _,
                        (tt, (_, (refl, refl), refl)),
                        (
                          _,
                          (tt, (_, (_, _, ((refl, refl), (refl, (refl, refl)), refl), refl), refl)),
                          (
                            _,
                            (tt, (_, (refl, (_, inr refl, refl, refl, refl)), refl)),
                            refl,
                          ),
                        ),
                      ),
                    ),
                  ),
                ),
              ),
            ),
          ),
        ),
      ),
    ),
  ),
)

pub voided_after_crash : (calls image : ℕ) → (b : State) × Plays (is_about_to_put calls image ++ crashes_before_put ++ comes_up_pending ++ is_voided) b
voided_after_crash calls image = (
  _,
  (
    _,
    ((refl, tt), (_, (refl, (record { len = refl; bytes = refl }, refl, (refl, refl, refl))), refl)),
    (
      _,
      (tt, (_, (_, _, ((refl, refl), (refl, refl), refl), refl), refl)),
      (
        _,
        ((refl, tt), (_, (refl, (record { len = refl; bytes = refl }, refl, (refl, refl, refl))), refl)),
        (
          _,
          (tt, (_, (_, _, (refl, (refl, refl, refl, refl)), refl), refl)),
          (
            _,
            (tt, (_, (_, _, (refl, (refl, refl, refl)), refl), refl)),
            (
              _,
              (tt, (_, (_, _, ((refl, refl), (refl, refl), refl), refl), refl)),
              (
                _,
                (tt, (_, (refl, refl), refl)),
                (
                  _,
                  ((refl, tt), (_, (refl, (record { len = refl; bytes = refl }, refl, (refl, refl, refl))), refl)),
                  (
                    _,
                    (tt, (_, (_, _, (refl, (refl, refl, refl, refl)), refl), refl)),
                    (
                      _,
                      (tt, (_, (_, _, (refl, (inr (refl, refl), refl, refl)), refl), refl)),
                      (
                        _,
                        (tt, (_, (refl, refl), refl)),
                        (
                          _,
                          (tt, (_, (_, _, ((refl, (refl, refl)), refl), refl), refl)),
                          (
                            _,
                            (tt, (_, (refl, (_, inr refl, refl, refl, refl)), refl)),
                            (
                              _,
                              (tt, (_, (refl, (refl, refl, refl)), refl)),
                              (
                                _,
                                (tt, (_, (refl, refl), refl)),
                                refl,
                              ),
                            ),
                          ),
                        ),
                      ),
                    ),
                  ),
                ),
              ),
            ),
          ),
        ),
      ),
    ),
  ),
)

pub never_intended : (calls image : ℕ) → (b : State) × Plays (is_about_to_put calls image ++ crashes_before_put ++ comes_up_with 1) b
never_intended calls image = (
  _,
  (
    _,
    ((refl, tt), (_, (refl, (record { len = refl; bytes = refl }, refl, (refl, refl, refl))), refl)),
    (
      _,
      (tt, (_, (_, _, ((refl, refl), (refl, refl), refl), refl), refl)),
      (
        _,
        ((refl, tt), (_, (refl, (record { len = refl; bytes = refl }, refl, (refl, refl, refl))), refl)),
        (
          _,
          (tt, (_, (_, _, (refl, (refl, refl, refl, refl)), refl), refl)),
          (
            _,
            (tt, (_, (_, _, (refl, (refl, refl, refl)), refl), refl)),
            (
              _,
              (tt, (_, (_, _, ((refl, refl), (refl, refl), refl), refl), refl)),
              (
                _,
                (tt, (_, (refl, refl), refl)),
                (
                  _,
                  ((refl, tt), (_, (refl, (record { len = refl; bytes = refl }, refl, (refl, refl, refl))), refl)),
                  (
                    _,
                    (tt, (_, (_, _, (refl, (refl, refl, refl, refl)), refl), refl)),
                    (
                      _,
                      (tt, (_, (_, _, (refl, (inr (refl, refl), refl, refl)), refl), refl)),
                      (
                        _,
                        (tt, (_, (refl, refl), refl)),
                        (
                          _,
                          (tt, (_, (_, _, ((refl, (refl, refl)), refl), refl), refl)),
                          (
                            _,
                            (tt, (_, (refl, (_, inl refl, refl, refl, refl)), refl)),
                            refl,
                          ),
                        ),
                      ),
                    ),
                  ),
                ),
              ),
            ),
          ),
        ),
      ),
    ),
  ),
)

-- ---- up to the line of which another variant is refused

abbrev pub contends_run : (p : Page) → (b : State) × Plays (contends p) b
contends_run p = (
  _,
  (
    _,
    ((refl, tt), (_, (refl, (record { len = refl; bytes = refl }, refl, (refl, refl, refl))), refl)),
    (
      _,
      (tt, (_, (_, _, ((refl, refl), (refl, refl), refl), refl), refl)),
      (
        _,
        ((refl, tt), (_, (refl, (record { len = refl; bytes = refl }, refl, (refl, refl, refl))), refl)),
        (
          _,
          (tt, (_, (_, _, (refl, (refl, refl, refl, refl)), refl), refl)),
          (
            _,
            (tt, (_, (_, _, (refl, (refl, refl, refl)), refl), refl)),
            (
              _,
              (tt, (_, (_, _, ((refl, refl), (refl, refl), refl), refl), refl)),
              (
                _,
                ((refl, tt), (_, (refl, (record { len = refl; bytes = refl }, refl, (refl, refl, refl))), refl)),
                (
                  _,
                  (tt, (_, (_, _, (refl, (refl, refl, refl, refl)), refl), refl)),
                  (
                    _,
                    ((refl, tt), (_, (refl, (record { len = refl; bytes = refl }, refl, (refl, refl, refl))), refl)),
                    (
                      _,
                      (tt, (_, (_, _, (refl, (refl, refl, refl, refl)), refl), refl)),
                      (
                        _,
                        (tt, (_, (_, _, ((refl, refl), (refl, refl), refl), refl), refl)),
                        (
                          _,
                          (tt, (_, (_, _, (rises 2, (refl, refl, refl, refl)), refl), refl)),
                          (
                            _,
                            (tt, (_, (_, _, (refl, (refl, refl, refl, refl)), refl), refl)),
                            (
                              _,
                              ((refl, tt), (_, (refl, (record { len = refl; bytes = refl }, refl, (refl, refl, refl))), refl)),
                              (
                                _,
                                (tt, (_, (_, _, (refl, (refl, refl, refl, refl)), refl), refl)),
                                (
                                  _,
                                  (tt, (_, (_, _, ((refl, refl), (refl, refl), refl), refl), refl)),
                                  (
                                    _,
                                    (tt, (_, (_, _, (rises 3, (refl, refl, refl, refl)), refl), refl)),
                                    (
                                      _,
                                      (tt, (_, (_, _, (refl, (refl, refl, refl, refl)), refl), refl)),
                                      (
                                        _,
                                        ((refl, tt), (_, (refl, (record { len = refl; bytes = refl }, refl, (refl, refl, refl))), refl)),
                                        (
                                          _,
                                          (tt, (_, (_, _, (refl, (refl, refl, refl, refl)), refl), refl)),
                                          (
                                            _,
                                            (tt, (_, (_, _, ((refl, refl), (refl, refl), refl), refl), refl)),
                                            (
                                              _,
                                              (tt, (_, (_, _, (rises 4, (refl, refl, refl, refl)), refl), refl)),
                                              (
                                                _,
                                                (tt, (_, (_, _, (refl, (refl, refl, refl, refl)), refl), refl)),
                                                (
                                                  _,
                                                  ((refl, tt), (_, (refl, (record { len = refl; bytes = refl }, refl, (refl, refl, refl))), refl)),
                                                  (
                                                    _,
                                                    (tt, (_, (_, _, (refl, (refl, refl, refl, refl)), refl), refl)),
                                                    (
                                                      _,
                                                      (tt, (_, (_, _, ((refl, refl), (refl, refl), refl), refl), refl)),
                                                      (
                                                        _,
                                                        (tt, (_, (_, _, (rises 5, (refl, refl, refl, refl)), refl), refl)),
                                                        (
                                                          _,
                                                          (tt, (_, (_, _, (refl, (refl, refl, refl, refl)), refl), refl)),
                                                          (
                                                            _,
                                                            ((refl, tt), (_, (refl, (record { len = refl; bytes = refl }, refl, (refl, refl, refl))), refl)),
                                                            (
                                                              _,
                                                              (tt, (_, (_, _, (refl, (refl, refl, refl, refl)), refl), refl)),
                                                              (
                                                                _,
                                                                (tt, (_, (_, _, ((refl, refl), (refl, refl), refl), refl), refl)),
                                                                (
                                                                  _,
                                                                  (tt, (_, (_, _, (rises 6, (refl, refl, refl, refl)), refl), refl)),
                                                                  (
                                                                    _,
                                                                    (tt, (_, (_, _, (refl, (refl, refl, refl, refl)), refl), refl)),
                                                                    (
                                                                      _,
                                                                      ((refl, tt), (_, (refl, (record { len = refl; bytes = refl }, refl, (refl, refl, refl))), refl)),
                                                                      (
                                                                        _,
                                                                        (tt, (_, (_, _, (refl, (refl, refl, refl, refl)), refl), refl)),
                                                                        (
                                                                          _,
                                                                          (tt, (_, (_, _, ((refl, refl), (refl, refl), refl), refl), refl)),
                                                                          (
                                                                            _,
                                                                            (tt, (_, (_, _, (rises 7, (refl, refl, refl, refl)), refl), refl)),
                                                                            (
                                                                              _,
                                                                              (tt, (_, (_, _, (refl, (refl, refl, refl, refl)), refl), refl)),
                                                                              (
                                                                                _,
                                                                                ((refl, tt), (_, (refl, (record { len = refl; bytes = refl }, refl, (refl, refl, refl))), refl)),
                                                                                (
                                                                                  _,
                                                                                  (tt, (_, (_, _, (refl, (refl, refl, refl, refl)), refl), refl)),
                                                                                  (
                                                                                    _,
                                                                                    (tt, (_, (_, _, ((refl, refl), (refl, refl), refl), refl), refl)),
                                                                                    (
                                                                                      _,
                                                                                      (tt, (_, (_, _, (rises 8, (refl, refl, refl, refl)), refl), refl)),
                                                                                      (
                                                                                        _,
                                                                                        (tt, (_, (_, _, (refl, (refl, refl, refl, refl)), refl), refl)),
                                                                                        (
                                                                                          _,
                                                                                          ((refl, tt), (_, (refl, (record { len = refl; bytes = refl }, refl, (refl, refl, refl))), refl)),
                                                                                          (
                                                                                            _,
                                                                                            (tt, (_, (_, _, (refl, (refl, refl, refl, refl)), refl), refl)),
                                                                                            (
                                                                                              _,
                                                                                              (tt, (_, (_, _, ((refl, refl), (refl, refl), refl), refl), refl)),
                                                                                              refl,
                                                                                            ),
                                                                                          ),
                                                                                        ),
                                                                                      ),
                                                                                    ),
                                                                                  ),
                                                                                ),
                                                                              ),
                                                                            ),
                                                                          ),
                                                                        ),
                                                                      ),
                                                                    ),
                                                                  ),
                                                                ),
                                                              ),
                                                            ),
                                                          ),
                                                        ),
                                                      ),
                                                    ),
                                                  ),
                                                ),
                                              ),
                                            ),
                                          ),
                                        ),
                                      ),
                                    ),
                                  ),
                                ),
                              ),
                            ),
                          ),
                        ),
                      ),
                    ),
                  ),
                ),
              ),
            ),
          ),
        ),
      ),
    ),
  ),
)

abbrev pub lost_run : (b : State) × Plays loses_an_answer b
lost_run = (
  _,
  (
    _,
    ((refl, tt), (_, (refl, (record { len = refl; bytes = refl }, refl, (refl, refl, refl))), refl)),
    (
      _,
      (tt, (_, (_, _, ((refl, refl), (refl, refl), refl), refl), refl)),
      (
        _,
        ((refl, tt), (_, (refl, (record { len = refl; bytes = refl }, refl, (refl, refl, refl))), refl)),
        (
          _,
          (tt, (_, (_, _, (refl, (refl, refl, refl, refl)), refl), refl)),
          (
            _,
            (tt, (_, (_, _, (refl, (refl, refl, refl)), refl), refl)),
            (
              _,
              (tt, (_, (_, _, ((refl, refl), (refl, refl), refl), refl), refl)),
              (
                _,
                (tt, (_, (refl, refl), refl)),
                (
                  _,
                  ((refl, tt), (_, (refl, (record { len = refl; bytes = refl }, refl, (refl, refl, refl))), refl)),
                  (
                    _,
                    (tt, (_, (_, _, (refl, (refl, refl, refl, refl)), refl), refl)),
                    (
                      _,
                      (tt, (_, (_, _, (refl, (inr (refl, refl), refl, refl)), refl), refl)),
                      (
                        _,
                        (tt, (_, (_, _, ((refl, refl), (refl, refl, refl)), refl), refl)),
                        (
                          _,
                          (tt, (_, (refl, (refl, refl, refl)), refl)),
                          (
                            _,
                            (tt, (_, (refl, (refl, refl)), refl)),
                            (
                              _,
                              (tt, (_, (refl, refl), refl)),
                              (
                                _,
                                ((refl, tt), (_, (refl, (record { len = refl; bytes = refl }, refl, (refl, refl, refl))), refl)),
                                (
                                  _,
                                  (tt, (_, (_, _, (refl, (refl, refl, refl, refl)), refl), refl)),
                                  (
                                    _,
                                    (tt, (_, (_, _, (refl, (inr (refl, refl), refl, refl)), refl), refl)),
                                    (
                                      _,
                                      (tt, (_, (_, _, ((refl, refl), (refl, refl), refl), refl), refl)),
                                      (
                                        _,
                                        (tt, (_, (refl, refl), refl)),
                                        (
                                          _,
                                          ((refl, tt), (_, (refl, (record { len = refl; bytes = refl }, refl, (refl, refl, refl))), refl)),
                                          (
                                            _,
                                            (tt, (_, (_, _, (refl, (refl, refl, refl, refl)), refl), refl)),
                                            (
                                              _,
                                              (tt, (_, (_, _, (refl, (inr (refl, refl), refl, refl)), refl), refl)),
                                              (
                                                _,
                                                (tt, (_, (_, _, ((refl, refl), (refl, refl), refl), refl), refl)),
                                                (
                                                  _,
                                                  (tt, (_, (refl, (refl, refl)), refl)),
                                                  (
                                                    _,
                                                    (tt, (_, (refl, (refl, refl, refl)), refl)),
                                                    refl,
                                                  ),
                                                ),
                                              ),
                                            ),
                                          ),
                                        ),
                                      ),
                                    ),
                                  ),
                                ),
                              ),
                            ),
                          ),
                        ),
                      ),
                    ),
                  ),
                ),
              ),
            ),
          ),
        ),
      ),
    ),
  ),
)

abbrev pub crashed_run : (b : State) × Plays crashes_later b
crashed_run = (
  _,
  (
    _,
    ((refl, tt), (_, (refl, (record { len = refl; bytes = refl }, refl, (refl, refl, refl))), refl)),
    (
      _,
      (tt, (_, (_, _, ((refl, refl), (refl, refl), refl), refl), refl)),
      (
        _,
        ((refl, tt), (_, (refl, (record { len = refl; bytes = refl }, refl, (refl, refl, refl))), refl)),
        (
          _,
          (tt, (_, (_, _, (refl, (refl, refl, refl, refl)), refl), refl)),
          (
            _,
            (tt, (_, (_, _, (refl, (refl, refl, refl)), refl), refl)),
            (
              _,
              (tt, (_, (_, _, ((refl, refl), (refl, refl), refl), refl), refl)),
              (
                _,
                (tt, (_, (refl, refl), refl)),
                (
                  _,
                  (tt, (_, (refl, refl), refl)),
                  refl,
                ),
              ),
            ),
          ),
        ),
      ),
    ),
  ),
)

abbrev pub fused_run : (calls image : ℕ) → (b : State) × Plays (crashes_in_a_commit calls image) b
fused_run calls image = (
  _,
  (
    _,
    ((refl, tt), (_, (refl, (record { len = refl; bytes = refl }, refl, (refl, refl, refl))), refl)),
    (
      _,
      (tt, (_, (_, _, ((refl, refl), (refl, refl), refl), refl), refl)),
      (
        _,
        ((refl, tt), (_, (refl, (record { len = refl; bytes = refl }, refl, (refl, refl, refl))), refl)),
        (
          _,
          (tt, (_, (_, _, (refl, (refl, refl, refl, refl)), refl), refl)),
          (
            _,
            (tt, (_, (_, _, (refl, (refl, refl, refl)), refl), refl)),
            (
              _,
              (tt, (_, (_, _, ((refl, refl), (refl, refl), refl), refl), refl)),
              (
                _,
                (tt, (_, (refl, refl), refl)),
                (
                  _,
                  (tt, (_, (refl, (refl, (refl, refl))), refl)),
                  refl,
                ),
              ),
            ),
          ),
        ),
      ),
    ),
  ),
)

abbrev pub held_run : (b : State) × Plays holds_one b
held_run = (
  _,
  (
    _,
    ((refl, tt), (_, (refl, (record { len = refl; bytes = refl }, refl, (refl, refl, refl))), refl)),
    (
      _,
      (tt, (_, (_, _, ((refl, refl), (refl, refl), refl), refl), refl)),
      (
        _,
        ((refl, tt), (_, (refl, (record { len = refl; bytes = refl }, refl, (refl, refl, refl))), refl)),
        (
          _,
          (tt, (_, (_, _, (refl, (refl, refl, refl, refl)), refl), refl)),
          (
            _,
            (tt, (_, (_, _, (refl, (refl, refl, refl)), refl), refl)),
            (
              _,
              (tt, (_, (_, _, (refl, (refl, refl, refl)), refl), refl)),
              (
                _,
                (tt, (_, (_, _, (refl, (refl, refl, refl)), refl), refl)),
                (
                  _,
                  (tt, (_, (_, _, ((refl, refl), (refl, refl), refl), refl), refl)),
                  (
                    _,
                    (tt, (_, (refl, (refl, refl)), refl)),
                    (
                      _,
                      (tt, (_, (refl, (refl, refl, refl, refl, refl)), refl)),
                      (
                        _,
                        (tt, (_, (refl, refl), refl)),
                        refl,
                      ),
                    ),
                  ),
                ),
              ),
            ),
          ),
        ),
      ),
    ),
  ),
)

abbrev pub freed_run : (b : State) × Plays (holds_one ++ holds_two) b
freed_run = (
  _,
  (
    _,
    ((refl, tt), (_, (refl, (record { len = refl; bytes = refl }, refl, (refl, refl, refl))), refl)),
    (
      _,
      (tt, (_, (_, _, ((refl, refl), (refl, refl), refl), refl), refl)),
      (
        _,
        ((refl, tt), (_, (refl, (record { len = refl; bytes = refl }, refl, (refl, refl, refl))), refl)),
        (
          _,
          (tt, (_, (_, _, (refl, (refl, refl, refl, refl)), refl), refl)),
          (
            _,
            (tt, (_, (_, _, (refl, (refl, refl, refl)), refl), refl)),
            (
              _,
              (tt, (_, (_, _, (refl, (refl, refl, refl)), refl), refl)),
              (
                _,
                (tt, (_, (_, _, (refl, (refl, refl, refl)), refl), refl)),
                (
                  _,
                  (tt, (_, (_, _, ((refl, refl), (refl, refl), refl), refl), refl)),
                  (
                    _,
                    (tt, (_, (refl, (refl, refl)), refl)),
                    (
                      _,
                      (tt, (_, (refl, (refl, refl, refl, refl, refl)), refl)),
                      (
                        _,
                        (tt, (_, (refl, refl), refl)),
                        (
                          _,
                          (tt, (_, (refl, (refl, refl, refl, refl, refl)), refl)),
                          (
                            _,
                            (tt, (_, (refl, refl), refl)),
                            (
                              _,
                              (tt, (_, (refl, (refl, both_held, refl)), refl)),
                              (
                                _,
                                (tt, (_, (refl, refl), refl)),
                                (
                                  _,
                                  (tt, (_, (refl, (refl, refl, refl, refl, refl)), refl)),
                                  (
                                    _,
                                    (tt, (_, (refl, (refl, refl)), refl)),
                                    (
                                      _,
                                      (tt, (_, (refl, (refl, refl)), refl)),
                                      (
                                        _,
                                        (tt, (_, (refl, (refl, refl, refl, refl, refl)), refl)),
                                        (
                                          _,
                                          (tt, (_, (refl, refl), refl)),
                                          (
                                            _,
                                            (tt, (_, (refl, (refl, refl)), refl)),
                                            refl,
                                          ),
                                        ),
                                      ),
                                    ),
                                  ),
                                ),
                              ),
                            ),
                          ),
                        ),
                      ),
                    ),
                  ),
                ),
              ),
            ),
          ),
        ),
      ),
    ),
  ),
)

abbrev pub twice_run : (b : State) × Plays commits_twice b
twice_run = (
  _,
  (
    _,
    ((refl, tt), (_, (refl, (record { len = refl; bytes = refl }, refl, (refl, refl, refl))), refl)),
    (
      _,
      (tt, (_, (_, _, ((refl, refl), (refl, refl), refl), refl), refl)),
      (
        _,
        ((refl, tt), (_, (refl, (record { len = refl; bytes = refl }, refl, (refl, refl, refl))), refl)),
        (
          _,
          (tt, (_, (_, _, (refl, (refl, refl, refl, refl)), refl), refl)),
          (
            _,
            (tt, (_, (_, _, (refl, (refl, refl, refl)), refl), refl)),
            (
              _,
              (tt, (_, (_, _, ((refl, refl), (refl, refl), refl), refl), refl)),
              (
                _,
                (tt, (_, (refl, (refl, refl, refl)), refl)),
                (
                  _,
                  (tt, (_, (refl, (refl, refl)), refl)),
                  (
                    _,
                    (tt, (_, (refl, refl), refl)),
                    (
                      _,
                      (tt, (_, (refl, refl), refl)),
                      (
                        _,
                        ((refl, tt), (_, (refl, (record { len = refl; bytes = refl }, refl, (refl, refl, refl))), refl)),
                        (
                          _,
                          (tt, (_, (_, _, (refl, (refl, refl, refl, refl)), refl), refl)),
                          (
                            _,
                            (tt, (_, (_, _, (refl, (inr (refl, refl), refl, refl)), refl), refl)),
                            (
                              _,
                              (tt, (_, (_, _, ((refl, refl), (refl, refl), refl), refl), refl)),
                              (
                                _,
                                ((refl, tt), (_, (refl, (record { len = refl; bytes = refl }, refl, (refl, refl, refl))), refl)),
                                refl,
                              ),
                            ),
                          ),
                        ),
                      ),
                    ),
                  ),
                ),
              ),
            ),
          ),
        ),
      ),
    ),
  ),
)

abbrev pub early_run : (b : State) × Plays (replaces 99) b
early_run = (
  _,
  (
    _,
    ((refl, tt), (_, (refl, (record { len = refl; bytes = refl }, refl, (refl, refl, refl))), refl)),
    (
      _,
      (tt, (_, (_, _, ((refl, refl), (refl, refl), refl), refl), refl)),
      (
        _,
        ((refl, tt), (_, (refl, (record { len = refl; bytes = refl }, refl, (refl, refl, refl))), refl)),
        (
          _,
          (tt, (_, (_, _, (refl, (refl, refl, refl, refl)), refl), refl)),
          (
            _,
            (tt, (_, (_, _, (refl, (refl, refl, refl)), refl), refl)),
            (
              _,
              (tt, (_, (_, _, ((refl, refl), (refl, refl), refl), refl), refl)),
              (
                _,
                (tt, (_, (refl, (refl, refl, refl)), refl)),
                (
                  _,
                  (tt, (_, (refl, (refl, refl)), refl)),
                  (
                    _,
                    (tt, (_, (refl, (refl, refl)), refl)),
                    (
                      _,
                      (tt, (_, (refl, refl), refl)),
                      (
                        _,
                        ((refl, tt), (_, (refl, (record { len = refl; bytes = refl }, refl, (refl, refl, refl))), refl)),
                        (
                          _,
                          (tt, (_, (_, _, (refl, (refl, refl, refl, refl)), refl), refl)),
                          (
                            _,
                            (tt, (_, (_, _, (refl, (inr (refl, refl), refl, refl)), refl), refl)),
                            (
                              _,
                              (tt, (_, (_, _, ((refl, refl), (refl, refl), refl), refl), refl)),
                              (
                                _,
                                ((refl, refl), refl),
                                (
                                  _,
                                  ((refl, tt), (_, (refl, (record { len = refl; bytes = refl }, refl, (refl, refl, refl))), refl)),
                                  refl,
                                ),
                              ),
                            ),
                          ),
                        ),
                      ),
                    ),
                  ),
                ),
              ),
            ),
          ),
        ),
      ),
    ),
  ),
)

abbrev pub asked_run : (b : State) × Plays (replaces 99 ++ reads_again) b
asked_run = (
  _,
  (
    _,
    ((refl, tt), (_, (refl, (record { len = refl; bytes = refl }, refl, (refl, refl, refl))), refl)),
    (
      _,
      (tt, (_, (_, _, ((refl, refl), (refl, refl), refl), refl), refl)),
      (
        _,
        ((refl, tt), (_, (refl, (record { len = refl; bytes = refl }, refl, (refl, refl, refl))), refl)),
        (
          _,
          (tt, (_, (_, _, (refl, (refl, refl, refl, refl)), refl), refl)),
          (
            _,
            (tt, (_, (_, _, (refl, (refl, refl, refl)), refl), refl)),
            (
              _,
              (tt, (_, (_, _, ((refl, refl), (refl, refl), refl), refl), refl)),
              (
                _,
                (tt, (_, (refl, (refl, refl, refl)), refl)),
                (
                  _,
                  (tt, (_, (refl, (refl, refl)), refl)),
                  (
                    _,
                    (tt, (_, (refl, (refl, refl)), refl)),
                    (
                      _,
                      (tt, (_, (refl, refl), refl)),
                      (
                        _,
                        ((refl, tt), (_, (refl, (record { len = refl; bytes = refl }, refl, (refl, refl, refl))), refl)),
                        (
                          _,
                          (tt, (_, (_, _, (refl, (refl, refl, refl, refl)), refl), refl)),
                          (
                            _,
                            (tt, (_, (_, _, (refl, (inr (refl, refl), refl, refl)), refl), refl)),
                            (
                              _,
                              (tt, (_, (_, _, ((refl, refl), (refl, refl), refl), refl), refl)),
                              (
                                _,
                                ((refl, refl), refl),
                                (
                                  _,
                                  ((refl, tt), (_, (refl, (record { len = refl; bytes = refl }, refl, (refl, refl, refl))), refl)),
                                  (
                                    _,
                                    (tt, (_, (refl, (refl, refl, refl, refl, refl)), refl)),
                                    refl,
                                  ),
                                ),
                              ),
                            ),
                          ),
                        ),
                      ),
                    ),
                  ),
                ),
              ),
            ),
          ),
        ),
      ),
    ),
  ),
)
