pub mod PollLaws
