pub mod Dequeued
